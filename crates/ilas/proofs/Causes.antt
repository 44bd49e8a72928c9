-- The cause of one reading, case by case.
use Rattle.std.proofs.Common.{◌≡◌, ◌≢◌, ℕ, ◌+◌, ◌-◌, ◌<◌, ◌≤◌, nat_le, nat_lt, ◌&&◌, true, false, List, Some, None, refl}
use Rattle.std.proofs.lemmas.Bool.{le-leb, lt-ltb, lt-leb, le-ltb, and_right}
use Rattle.link_params.specs.declared.fields.Params.{Params}
use Rattle.link_params.specs.declared.ilas_state.IlasCause.TheVariants.{Code, Wrong}
use Rattle.link_params.specs.Numbers.{period}
use Rattle.code_8b10b.specs.declared.character.Char.{Char}
use Rattle.code_8b10b.specs.declared.character.Reading.{Reading}
use Rattle.code_8b10b.specs.declared.character.Reading.TheVariants.{Char as Read, Disparity, Invalid}
use Rattle.ilas.specs.Sequence.{ilas_char}
use Rattle.ilas.specs.Checked.{cause_at, config_cause, is_allowed}
use Rattle.code_8b10b.specs.Reads.{octet_of_char}

pub code-cause : (p : Params) (lane : ℕ) (rs : List Reading) (x : ℕ) (r : Reading) → ((c : Char) → r ≢ Read c) → Some Code ≡ cause_at p lane rs x r
unfolding cause_at
code-cause p lane rs x Invalid other = refl
code-cause p lane rs x (Disparity c) other = refl
code-cause p lane rs x (Read c) other = absurd (other c refl)

pub wrong-cause : (p : Params) (lane : ℕ) (rs : List Reading) (x : ℕ) (r : Reading) (c : Char) → r ≡ Read c → is_allowed (ilas_char p lane x) c ≡ false
    → Some Wrong ≡ cause_at p lane rs x r
unfolding cause_at
wrong-cause p lane rs x r c is wrong = rw (is, wrong) refl

pub early-cause : (p : Params) (lane : ℕ) (rs : List Reading) (x : ℕ) (r : Reading) (c : Char) → r ≡ Read c → is_allowed (ilas_char p lane x) c ≡ true
    → x < period p + 2 → None ≡ cause_at p lane rs x r
unfolding cause_at
early-cause p lane rs x r c is allowed early = rw (is, allowed, lt-leb (period p + 2) x early) refl

pub late-cause : (p : Params) (lane : ℕ) (rs : List Reading) (x : ℕ) (r : Reading) (c : Char) → r ≡ Read c → is_allowed (ilas_char p lane x) c ≡ true
    → period p + 2 + 14 ≤ x → None ≡ cause_at p lane rs x r
unfolding cause_at
late-cause p lane rs x r c is allowed late =
    let outside : (nat_le (period p + 2) x && nat_lt x (period p + 2 + 14)) ≡ false = rw (le-ltb x (period p + 2 + 14) late) (and_right _ false refl) in
    rw (is, allowed, outside) refl

pub octet-cause : (p : Params) (lane : ℕ) (rs : List Reading) (x : ℕ) (r : Reading) (c : Char) → r ≡ Read c → is_allowed (ilas_char p lane x) c ≡ true
    → period p + 2 ≤ x → x < period p + 2 + 14 → config_cause p lane rs (x - (period p + 2)) (octet_of_char c) ≡ cause_at p lane rs x r
unfolding cause_at
octet-cause p lane rs x r c is allowed begun within =
    rw (is, allowed, le-leb (period p + 2) x begun, lt-ltb x (period p + 2 + 14) within) refl
