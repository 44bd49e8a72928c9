-- An alignment sequence that is read as it was sent passes its check.
use Rattle.std.proofs.Common.{◌≡◌, ℕ, zero, suc, ◌+◌, ◌-◌, ◌*◌, ◌/◌, ◌%◌, ◌<◌, ◌≤◌, ◌==◌, nat_le, nat_lt, if◌then◌else◌, not, ◌&&◌, bit_and, Bool, true, false, List, [], ◌∷◌, length, take, drop, get_or, None, inl, inr, refl, sym, subst, ap, ◌∙◌, length-drop, length-take-le, arith}
use Rattle.std.proofs.Math.Nat.{add-mul-mod_self_left, add-mul-div_left, div-eq_of_lt, mod-eq_of_lt}
use Rattle.std.specs.List.{slice_index, sum}
use Rattle.std.proofs.lemmas.Bool.{and_parts, cases_Bool, eq-eqb, eqb-true, leb-true, ltb-true, or_left}
use Rattle.std.proofs.lemmas.List.{ext_get_or, get_or-drop, get_or-map, get_or-take, length-map}
use Rattle.link_params.specs.declared.fields.Params.{Params}
use Rattle.link_params.specs.declared.ilas_state.IlasState.{IlasState}
use Rattle.link_params.specs.declared.ilas_state.IlasState.TheVariants.{Going, Done}
use Rattle.link_params.specs.Config.{config_octets, differs, fields, has_sum, masks, one_if, read_values}
use Rattle.link_params.specs.Laws.{broken_law, is_b}
use Rattle.link_params.specs.Numbers.{period}
use Rattle.link_params.proofs.ConfigFacts.{config_octets-is}
use Rattle.link_params.proofs.LawFacts.{rooms}
use Rattle.code_8b10b.specs.declared.character.Char.{Char}
use Rattle.code_8b10b.specs.declared.character.Char.TheVariants.{Data, Control}
use Rattle.code_8b10b.specs.declared.character.Reading.{Reading}
use Rattle.code_8b10b.specs.declared.character.Reading.TheVariants.{Char as Read, Invalid}
use Rattle.ilas.specs.Checked.{cause_at, config_cause, config_read, fault_or, first_fault, ilas_state, is_allowed}
use Rattle.ilas.specs.Sequence.{ilas_char}
use Rattle.ilas.proofs.Places.{config-char}
use Rattle.link_laws.specs.LaneLaws.{HasNoFault}
use Rattle.code_8b10b.specs.Reads.{octet_of_char, octet_read}

-- ---- the sums agree

one-small : (b : Bool) → one_if b ≤ 1
one-small true = omega arith
one-small false = omega arith

sum-read : (lane scr l f k m cs n np s hd x : ℕ) → lane < 32 → scr ≤ 1 → l < 32 → f < 256 → k < 32
    → m < 256 → cs ≤ 3 → n < 32 → np < 32 → s < 32 → hd ≤ 1
    → sum
    (read_values (0 ∷ 0 ∷ lane ∷ (128 * scr + l) ∷ f ∷ k ∷ m ∷ (64 * cs + n) ∷ (32 + np) ∷ (32 + s)
    ∷ 128 * hd ∷ 0 ∷ 0 ∷ x ∷ []))
    ≡ lane + scr + l + f + k + m + cs + n + 1 + np + 1 + s + hd
unfolding read_values fields
sum-read lane scr l f k m cs n np s hd x a b c d e g h i j o q = omega arith

has-sum : (p : Params) (lane : ℕ) → broken_law p ≡ None → is_b p.mode ≡ true → lane < p.l
    → has_sum (config_octets p lane) ≡ true
unfolding has_sum
has-sum p lane laws b below =
    let room = rooms p laws b in
    let rl = room.l in
    let rf = room.f in
    let rk = room.k in
    let rm = room.m in
    let rcs = room.cs in
    let rn = room.n in
    let rnp = room.np in
    let rs = room.s in
    let scr : ℕ = one_if p.scr in
    let hd : ℕ = one_if p.hd in
    let scr_small : scr ≤ 1 = one-small p.scr in
    let hd_small : hd ≤ 1 = one-small p.hd in
    let all : ℕ = lane + scr + (p.l - 1) + (p.f - 1) + (p.k - 1) + (p.m - 1) + p.cs + (p.n - 1) + 1
    + (p.np - 1) + 1 + (p.s - 1) + hd in
    let P : List ℕ → Type 0 = λ octets. has_sum octets ≡ true in
    let total = sum-read lane scr (p.l - 1) (p.f - 1) (p.k - 1) (p.m - 1) p.cs (p.n - 1) (p.np - 1)
    (p.s - 1) hd (all % 256)
    (omega arith) scr_small (omega arith) (omega arith) (omega arith) (omega arith) rcs
    (omega arith) (omega arith) (omega arith) hd_small in
    let octets : List ℕ = 0 ∷ 0 ∷ lane ∷ (128 * scr + (p.l - 1)) ∷ (p.f - 1) ∷ (p.k - 1) ∷ (p.m - 1)
    ∷ (64 * p.cs + (p.n - 1)) ∷ (32 + (p.np - 1))
    ∷ (32 + (p.s - 1)) ∷ 128 * hd ∷ 0 ∷ 0 ∷ all % 256 ∷ [] in
    subst P (config_octets-is p lane scr hd refl refl)
    (or_left (slice_index octets 13 == sum (read_values octets) % 256)
    (slice_index octets 13 == sum (take 13 octets) % 256)
    (eq-eqb (all % 256) (sum (read_values octets) % 256) (ap (λ (n : ℕ). n % 256) (sym total))))

-- ---- allowed

allowed-self : (c : Char) → is_allowed c c ≡ true
allowed-self (Data o) = refl
allowed-self (Control o) = eq-eqb o o refl

five-allowed : (a b c d : Bool) (v w x : ℕ)
    → is_allowed
    (if a then Control 0x1C else
    (if b then Control 0x7C else (if c then Control 0x9C else (if d then Data v else Data x))))
    (if a then Control 0x1C else
    (if b then Control 0x7C else (if c then Control 0x9C else (if d then Data w else Data x))))
    ≡ true
five-allowed true b c d v w x = refl
five-allowed false true c d v w x = refl
five-allowed false false true d v w x = refl
five-allowed false false false true v w x = refl
five-allowed false false false false v w x = refl

-- what one lane sends at a place is allowed for each
pub allowed-lanes : (p : Params) (lane x : ℕ) → is_allowed (ilas_char p 0 x) (ilas_char p lane x)
    ≡ true
unfolding ilas_char
allowed-lanes p lane x =
    let n : ℕ = period p in
    five-allowed (x % n == 0) (x % n + 1 == n) ((x / n == 1) && (x % n == 1))
    ((x / n == 1) && nat_le (x % n) 15)
    (slice_index (config_octets p 0) (x % n - 2)) (slice_index (config_octets p lane) (x % n - 2))
    (x % 256)

-- ---- the configuration

-- the places of the fourteen octets
pub config-place : (p : Params) (lane x : ℕ) → 17 ≤ period p → period p + 2 ≤ x → x < period p + 16
    → ilas_char p lane x ≡ Data (slice_index (config_octets p lane) (x - (period p + 2)))
config-place p lane x some low high =
    let n : ℕ = period p in
    let j : ℕ = x - n in
    let split : x ≡ j + n * 1 = omega arith in
    let rem : x % n ≡ j = ap (λ (k : ℕ). k % n) split ∙ add-mul-mod_self_left j n 1
    ∙ mod-eq_of_lt (let lt : j < n = omega arith in lt) in
    let small : j / n ≡ 0 = div-eq_of_lt (let lt : j < n = omega arith in lt) in
    let quot : x / n ≡ 1 = ap (λ (k : ℕ). k / n) split
    ∙ add-mul-div_left j 1 (let lt : 0 < n = omega arith in lt) ∙ omega arith in
    let at : x % n - 2 ≡ x - (n + 2) = omega arith in
    sym (config-char p lane x n refl (λ e. omega arith) (λ e. omega arith) quot (λ e. omega arith)
    (omega arith))
    ∙ ap (λ i. Data (slice_index (config_octets p lane) i)) at

length-config : (p : Params) (lane : ℕ) → length (config_octets p lane) ≡ 14
unfolding config_octets
length-config p lane = refl

differs-none : (p : Params) (lane i : ℕ) → differs p lane i (slice_index (config_octets p lane) i)
    ≡ false
unfolding differs
differs-none p lane i =
    let o : ℕ = slice_index (config_octets p lane) i in
    ap not (eq-eqb (bit_and o (slice_index masks i)) (bit_and o (slice_index masks i)) refl)

-- ---- the check

fault-none : (xs : List Reading) (p : Params) (lane : ℕ) (readings : List Reading) (x : ℕ)
    (state : IlasState)
    → ((i : ℕ) → i < length xs → cause_at p lane readings (x + i) (get_or xs i Invalid) ≡ None)
    → first_fault p lane readings x xs state ≡ state
unfolding first_fault
fault-none [] p lane readings x state none = refl
fault-none (r ∷ xs) p lane readings x state none =
    let z : x + 0 ≡ x = omega arith in
    let here : cause_at p lane readings x r ≡ None = sym (ap (λ k. cause_at p lane readings k r) z)
    ∙ none 0 (omega arith) in
    ap (λ o. fault_or x o (first_fault p lane readings (suc x) xs state)) here
    ∙ fault-none xs p lane readings (suc x) state (λ i lt. let e : suc x + i ≡ x + suc i =
    omega arith in ap (λ k. cause_at p lane readings k (get_or xs i Invalid)) e
    ∙ none (suc i) (omega arith))

module _ (p : Params) (lane : ℕ) (laws : broken_law p ≡ None) (b : is_b p.mode ≡ true)
    (below : lane < p.l) (some : 17 ≤ period p) (readings : List Reading)
    (are : (i : ℕ) → i < length readings → get_or readings i Invalid ≡ Read (ilas_char p lane i))
  where
    config-is : period p + 16 ≤ length readings → config_read p readings ≡ config_octets p lane
    config-is long =
        let part : List Reading = take 14 (drop (period p + 2) readings) in
        let rest = length-drop (period p + 2) readings in
        let fourteen : length part ≡ 14 = length-take-le 14 (drop (period p + 2) readings)
        (omega arith) in
        let wide = length-map part octet_read in
        let due = length-config p lane in
        ext_get_or 0 (config_read p readings) (config_octets p lane) (omega arith) (λ i lt.
        let at : period p + 2 + i - (period p + 2) ≡ i = omega arith in
        get_or-map octet_read part i Invalid 0 (omega arith)
        ∙ ap octet_read (get_or-take 14 (drop (period p + 2) readings) i Invalid (omega arith)
        ∙ get_or-drop (period p + 2) readings i Invalid ∙ are (period p + 2 + i) (omega arith)
        ∙ ap Read (config-place p lane (period p + 2 + i) some (omega arith) (omega arith)))
        ∙ ap (slice_index (config_octets p lane)) at)

    config-none : (i : ℕ) → period p + 2 + i < length readings
        → config_cause p lane readings i (slice_index (config_octets p lane) i) ≡ None
    config-none i inside = elim (cases_Bool (i == 13)) [
      | inl last ↦
          let is = eqb-true i 13 last in
          let sums : has_sum (config_read p readings) ≡ true = ap has_sum (config-is (omega arith))
          ∙ has-sum p lane laws b below in
          rw (last, sums) refl
      | inr other ↦ let none = differs-none p lane i in rw (other, none) refl
    ]

    cause-config : (x : ℕ) → x < length readings → period p + 2 ≤ x → x < period p + 16
        → config_cause p lane readings (x - (period p + 2)) (octet_of_char (ilas_char p lane x))
        ≡ None
    cause-config x inside low high =
        ap (λ c. config_cause p lane readings (x - (period p + 2)) (octet_of_char c))
        (config-place p lane x some low high)
        ∙ config-none (x - (period p + 2)) (omega arith)

    cause-none : (x : ℕ) → x < length readings
        → cause_at p lane readings x (Read (ilas_char p lane x)) ≡ None
    unfolding cause_at
    cause-none x inside =
        let allowed = allowed-self (ilas_char p lane x) in
        elim (cases_Bool (nat_le (period p + 2) x && nat_lt x (period p + 2 + 14))) [
          | inl here ↦
              let parts = and_parts (nat_le (period p + 2) x) (nat_lt x (period p + 2 + 14)) here in
              let low = leb-true (period p + 2) x parts.0 in
              let high = ltb-true x (period p + 2 + 14) parts.1 in
              let none = cause-config x inside low (omega arith) in
              rw (allowed, here) none
          | inr apart ↦ rw (allowed, apart) refl
        ]

    pub checked : (state : IlasState) → first_fault p lane readings 0 readings state ≡ state
    checked state = fault-none readings p lane readings 0 state (λ i lt.
        let z : 0 + i ≡ i = omega arith in
        ap (λ k. cause_at p lane readings k (get_or readings i Invalid)) z
        ∙ ap (cause_at p lane readings i) (are i lt) ∙ cause-none i lt)

take-few : (n : ℕ) (rs : List Reading) → length (take n rs) ≤ n
take-few zero rs = omega arith
take-few (suc n) [] = omega arith
take-few (suc n) (r ∷ rs) = let h = take-few n rs in omega arith

take-short : (n : ℕ) (rs : List Reading) → length (take n rs) ≤ length rs
take-short zero rs = omega arith
take-short (suc n) [] = omega arith
take-short (suc n) (r ∷ rs) = let h = take-short n rs in omega arith

no-fault : (b : Bool) → HasNoFault (if b then Done else Going)
no-fault true = tt
no-fault false = tt

-- the check has no fault
pub state-good : (p : Params) (lane : ℕ) → broken_law p ≡ None → is_b p.mode ≡ true → lane < p.l
    → 17 ≤ period p → (rs : List Reading)
    → ((i : ℕ) → i < length rs → i < 4 * period p → get_or rs i Invalid ≡ Read (ilas_char p lane i))
    → HasNoFault (ilas_state p lane rs)
unfolding ilas_state
state-good p lane laws b below some [] are = tt
state-good p lane laws b below some (r ∷ rest) are =
    let n : ℕ = 4 * period p in
    let readings : List Reading = take n (r ∷ rest) in
    let few : length readings ≤ n = take-few n (r ∷ rest) in
    let short : length readings ≤ length (r ∷ rest) = take-short n (r ∷ rest) in
    let same : (i : ℕ) → i < length readings → get_or readings i Invalid
    ≡ Read (ilas_char p lane i) =
    λ i lt. get_or-take n (r ∷ rest) i Invalid (omega arith) ∙ are i (omega arith) (omega arith) in
    subst HasNoFault
    (sym (checked p lane laws b below some readings same
    (if length readings == n then Done else Going))) (no-fault (length readings == n))
