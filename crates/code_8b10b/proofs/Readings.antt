-- Ten bits have one reading.
use Rattle.std.proofs.Common.{◌≡◌, ℕ, ◌<◌, Option, Some, None, refl, sym}
use Rattle.code_8b10b.specs.declared.character.Rd.{Rd}
use Rattle.code_8b10b.specs.declared.character.Char.{Char}
use Rattle.code_8b10b.specs.declared.character.Reading.{Reading}
use Rattle.code_8b10b.specs.declared.character.Reading.TheVariants.{Char as Read, Disparity, Invalid}
use Rattle.code_8b10b.specs.Code.{other, spelling, IsReading}
use Rattle.code_8b10b.specs.Reads.{char_at, reading, reading_of}
use Rattle.code_8b10b.specs.laws.CodeLaws.{OneReading, ReadsSpelling}
use Rattle.code_8b10b.proofs.Spellings.{char_at-spelling, spelling-char_at}

-- no character at all is spelled where none reads back
not_spelled : (rd : Rd) (w : ℕ) → char_at rd w ≡ None → (d : Char) → spelling rd d ≡ Some w → ⊥
not_spelled rd w none d e = let some = char_at-spelling rd d w e in cc

is_reading : (rd : Rd) (w : ℕ) (here there : Option Char) → w < 1024 → char_at rd w ≡ here → char_at (other rd) w ≡ there → IsReading rd w (reading_of here there)
is_reading rd w (Some c) there lt h t = spelling-char_at rd c w lt h
is_reading rd w None (Some c) lt h t = (not_spelled rd w h, spelling-char_at (other rd) c w lt t)
is_reading rd w None None lt h t = (not_spelled rd w h, not_spelled (other rd) w t)

only_reading : (rd : Rd) (w : ℕ) (here there : Option Char) → w < 1024 → char_at rd w ≡ here → char_at (other rd) w ≡ there
    → (r : Reading) → IsReading rd w r → r ≡ reading_of here there
only_reading rd w (Some d) there lt h t (Read c) is = let some = char_at-spelling rd c w is in cc
only_reading rd w None there lt h t (Read c) is = let some = char_at-spelling rd c w is in cc
only_reading rd w (Some d) there lt h t (Disparity c) is = absurd (is.0 d (spelling-char_at rd d w lt h))
only_reading rd w None (Some d) lt h t (Disparity c) is = let some = char_at-spelling (other rd) c w is.1 in cc
only_reading rd w None None lt h t (Disparity c) is = let some = char_at-spelling (other rd) c w is.1 in cc
only_reading rd w (Some d) there lt h t Invalid is = absurd (is.0 d (spelling-char_at rd d w lt h))
only_reading rd w None (Some d) lt h t Invalid is = absurd (is.1 d (spelling-char_at (other rd) d w lt t))
only_reading rd w None None lt h t Invalid is = refl

pub one_reading : OneReading
unfolding reading
one_reading rd w lt = (
  is_reading rd w (char_at rd w) (char_at (other rd) w) lt refl refl,
  only_reading rd w (char_at rd w) (char_at (other rd) w) lt refl refl,
)

pub reads_spelling : ReadsSpelling
reads_spelling rd w c lt =
    let one = one_reading rd w lt in (
      λ e. sym (one.1 (Read c) e),
      λ e. let is = one.0 in rw e at is,
    )
