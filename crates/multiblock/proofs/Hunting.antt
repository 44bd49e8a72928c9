-- What a hunt keeps from tick to tick, and what it answers.
use Rattle.std.proofs.Common.{◌≡◌, ℕ, zero, suc, ◌+◌, ◌-◌, ◌*◌, ◌/◌, ◌%◌, ◌^◌, ◌<◌, ◌≤◌, ◌==◌, Bool, true, List, [], ◌++◌, length, drop, get_or, refl, sym, ap, ap₂, ◌∙◌, inl, inr, arith, length-append}
use Rattle.std.specs.Prelude.{Option, Some, None, min, max, option_map, IfSome}
use Rattle.std.specs.Int.{bit_at}
use Rattle.std.proofs.lemmas.Bool.{cases_lt, cases_Bool, eqb-true}
use Rattle.std.proofs.lemmas.Nat.{shr-shr, mod-mul-add, pow_pos}
use Rattle.std.proofs.Math.Nat.{mod-eq_of_lt, mod-lt, div-eq_of_lt}
use Rattle.std.proofs.Math.Pow.{pow-lt}
use Rattle.jesd_base.specs.Bits.{bits, value}
use Rattle.jesd_base.specs.laws.BitLaws.{BitsLength, ValueOfBits, BitsOfValue, ValueOfAppend}
use Rattle.multiblock.specs.declared.place.Place.{Place as Found}
use Rattle.multiblock.specs.Places.{Place, pattern, pattern_size, span, next_place, found}
use Rattle.multiblock.specs.kept.Hunts.{Kept, aged, HasKept, HasHunted, is_good, sync_bit, all_words, remainder_at, IsNothing, IsFound}
use Rattle.multiblock.proofs.PlaceLemmas.{finds_none, pattern_stays, not-found, found-of}
use Rattle.multiblock.proofs.Patterns.{drop-bits, where_true, pattern-kept}

-- ---- what is kept

too-short : (e : ℕ) (bs : List Bool) → length bs < 66 * 128 → found e bs ≡ None
unfolding found
too-short e bs short =
    ap (option_map {U = Found} (λ (p : Place). record { rest = length bs - (p.first + span e); next = next_place e p.remainder }))
    ((finds_none e 0 bs).1 (λ i from within. let m : 4 ≤ max 4 e = omega arith in absurd (omega arith)))

zero-shifted : (k : ℕ) → 0 / 2 ^ k ≡ 0
zero-shifted k = div-eq_of_lt (pow_pos k)

pub begun : (now : Kept) (e : ℕ) → now.e ≡ e → now.count ≡ 0 → now.last ≡ 0 → ((k : ℕ) → get_or now.heads k 0 ≡ 0) → HasHunted now e []
begun now e s c l h = record {
  keeps = record { keeps_size = s; keeps_count = c; keeps_last = l; keeps_heads = λ j low. h ((now.at + 1023 - j) % 1024) ∙ zero-head j };
  finds_none = too-short e [] (omega arith);
}
  where
    zero-head : (j : ℕ) → 0 ≡ 0 / 2 ^ (66 * j + 64) % 2 ^ 68
    zero-head j = ap (λ t. t % 2 ^ 68) (sym (zero-shifted (66 * j + 64)))

pub record Took (old new : Kept) (word : ℕ) : Type 0 where
  pub e : new.e ≡ old.e
  pub count : new.count ≡ min (old.count + 66) 67650
  pub last : new.last ≡ word
  pub newest : aged new 0 ≡ old.last * 4 + word / 2 ^ 64
  pub older : (j : ℕ) → j < 1023 → aged new (1 + j) ≡ aged old j

new-last : (n w : ℕ) → w < 2 ^ 66 → (n * 2 ^ 66 + w) % 2 ^ 66 ≡ w
new-last n w low = mod-mul-add n (2 ^ 66) w low

new-rest : (n w : ℕ) → w < 2 ^ 66 → (n * 2 ^ 66 + w) / 2 ^ 66 ≡ n
new-rest n w low = omega arith

new-head : (n w : ℕ) → w < 2 ^ 66 → n % 2 ^ 66 * 4 + w / 2 ^ 64 ≡ (n * 2 ^ 66 + w) / 2 ^ 64 % 2 ^ 68
new-head n w low = omega arith

-- what a place that was found is bounded by
pub place-rest : (now : Kept) (phases : ℕ) (o : Option Found)
    → IfSome o (λ p. IsFound now phases p) → IfSome o (λ p. p.rest < 66)
place-rest now phases None h = tt
place-rest now phases (Some p) h = h.stands.within

pub place-next : (old now : Kept) (phases : ℕ) (o : Option Found) → now.e ≡ old.e → 1 ≤ now.e
    → IfSome o (λ p. IsFound now phases p) → IfSome o (λ p. p.next < 32 * old.e)
place-next old now phases None same some h = tt
place-next old now phases (Some p) same some h =
    let e : ℕ = now.e in
    let low = mod-lt (pattern_size e + e - 1 - h.stands.remainder) some in
    omega (arith, h.stands.follows)

module _ (length_of : BitsLength) (of_bits : ValueOfBits) (of_value : BitsOfValue) (value_append : ValueOfAppend) where
  new-value : (taken : List Bool) (word : ℕ) → word < 2 ^ 66 → value (taken ++ bits 66 word) ≡ value taken * 2 ^ 66 + word
  new-value taken word low =
      value_append taken (bits 66 word)
      ∙ ap₂ {C = ℕ} (λ n w. value taken * 2 ^ n + w) (length_of 66 word) (of_bits 66 word ∙ mod-eq_of_lt low)

  new-length : (taken : List Bool) (word : ℕ) → length (taken ++ bits 66 word) ≡ length taken + 66
  new-length taken word = length-append taken (bits 66 word) ∙ ap (λ n. length taken + n) (length_of 66 word)

  pub take-keeps : (old new : Kept) (e : ℕ) (taken : List Bool) (word : ℕ) → word < 2 ^ 66 → Took old new word → HasKept old e taken → HasKept new e (taken ++ bits 66 word)
  take-keeps old new e taken word low t k = record {
    keeps_size = t.e ∙ k.keeps_size;
    keeps_count = let n = new-length taken word in let a = t.count in let b = k.keeps_count in omega arith;
    keeps_last = t.last ∙ sym (new-last (value taken) word low) ∙ ap (λ v. v % 2 ^ 66) (sym v);
    keeps_heads = heads;
  }
    where
      v : value (taken ++ bits 66 word) ≡ value taken * 2 ^ 66 + word
      v = new-value taken word low

      heads : (j : ℕ) → j < 1024 → aged new j ≡ value (taken ++ bits 66 word) / 2 ^ (66 * j + 64) % 2 ^ 68
      heads zero within =
          t.newest ∙ ap (λ l. l * 4 + word / 2 ^ 64) k.keeps_last ∙ new-head (value taken) word low
          ∙ ap (λ x. x / 2 ^ 64 % 2 ^ 68) (sym v)
      heads (suc j) within =
          let one : 1 + j ≡ suc j = omega arith in
          let up : 66 + (66 * j + 64) ≡ 66 * suc j + 64 = omega arith in
          ap (aged new) (sym one) ∙ t.older j (omega arith) ∙ k.keeps_heads j (omega arith)
          ∙ ap (λ x. x / 2 ^ (66 * j + 64) % 2 ^ 68) (sym (new-rest (value taken) word low) ∙ ap (λ x. x / 2 ^ 66) (sym v))
          ∙ ap (λ x. x % 2 ^ 68) (shr-shr (value (taken ++ bits 66 word)) 66 (66 * j + 64))
          ∙ ap (λ n. value (taken ++ bits 66 word) / 2 ^ n % 2 ^ 68) up

  -- ---- what is answered

  pub record Tick (now : Kept) (phases : ℕ) (taken : List Bool) (all : List Bool) : Type 0 where
    pub keeps : HasKept now now.e all
    pub most : now.e ≤ 32
    pub longer : (more : List Bool) × (all ≡ taken ++ more)
    pub lengths : length all ≡ length taken + 66
    pub shown : (r : ℕ) → r < 66 → (bit_at phases r == 1) ≡ all_words (is_good now r) (sync_bit now r) (pattern_size now.e)
    pub before : found now.e taken ≡ None

  shows-at : (now : Kept) (phases r : ℕ) (taken all : List Bool) → Tick now phases taken all → r < 66 → span now.e + r ≤ length all
      → pattern now.e (drop (length all - (span now.e + r)) all) ≡ where_true (bit_at phases r == 1) (remainder_at now r)
  shows-at now phases r taken all t low within =
      let whole : length all ≡ (length all - (span now.e + r)) + (span now.e + r) = omega arith in
      ap (λ l. pattern now.e (drop (length all - (span now.e + r)) l)) (sym (of_value all))
      ∙ ap (pattern now.e) (drop-bits (length all - (span now.e + r)) (length all) (span now.e + r) (value all) whole)
      ∙ pattern-kept now r (value all) t.most low t.keeps.keeps_heads
      ∙ ap (λ b. where_true b (remainder_at now r)) (sym (t.shown r low))

  nothing-at : (now : Kept) (phases r : ℕ) (taken all : List Bool) → Tick now phases taken all → r < 66 → span now.e + r ≤ length all
      → IsNothing now phases r → pattern now.e (drop (length all - (span now.e + r)) all) ≡ None
  nothing-at now phases r taken all t low within n = elim (cases_Bool (bit_at phases r == 1)) [
    | inl set ↦
        let c = t.keeps.keeps_count in
        let m = t.most in
        shows-at now phases r taken all t low within ∙ ap (λ b. where_true b (remainder_at now r)) set
        ∙ n (eqb-true (bit_at phases r) 1 set) (omega arith)
    | inr no_bit ↦ shows-at now phases r taken all t low within ∙ ap (λ b. where_true b (remainder_at now r)) no_bit
  ]

  -- no place stands at an earlier bit than those after which r bits come, where these show none
  none-before : (now : Kept) (phases r : ℕ) (taken all : List Bool) → Tick now phases taken all
      → ((x : ℕ) → r ≤ x → x < 66 → IsNothing now phases x) → (i : ℕ) → i + span now.e + r ≤ length all → pattern now.e (drop i all) ≡ None
  none-before now phases r taken all t n i within = elim (cases_lt (length taken) (i + span now.e)) [
    | inl later ↦
        let l = t.lengths in
        let x : ℕ = length all - (i + span now.e) in
        let at : i ≡ length all - (span now.e + x) = omega arith in
        ap (λ k. pattern now.e (drop k all)) at ∙ nothing-at now phases x taken all t (omega arith) (omega arith) (n x (omega arith) (omega arith))
    | inr earlier ↦
        ap (λ a. pattern now.e (drop i a)) t.longer.1
        ∙ pattern_stays now.e i taken t.longer.0 earlier
        ∙ (finds_none now.e 0 taken).0 (not-found now.e taken t.before) i (omega arith) earlier
  ]

  pub answers-none : (now : Kept) (phases : ℕ) (taken all : List Bool) → Tick now phases taken all
      → ((x : ℕ) → x < 66 → IsNothing now phases x) → found now.e all ≡ None
  unfolding found
  answers-none now phases taken all t n =
      ap (option_map {U = Found} (λ (p : Place). record { rest = length all - (p.first + span now.e); next = next_place now.e p.remainder }))
      ((finds_none now.e 0 all).1 (λ i from within. none-before now phases 0 taken all t (λ x le low. n x low) i (omega arith)))

  pub answers-some : (now : Kept) (phases : ℕ) (taken all : List Bool) (p : Found) → Tick now phases taken all
      → IsFound now phases p → found now.e all ≡ Some p
  answers-some now phases taken all p t f =
      let s = f.stands in
      let c = t.keeps.keeps_count in
      let m = t.most in
      let w = s.whole in
      let within : span now.e + p.rest ≤ length all = omega arith in
      let first : ℕ = length all - (span now.e + p.rest) in
      let one : (bit_at phases p.rest == 1) ≡ true = ap (λ b. b == 1) s.is_one in
      found-of now.e all p first s.remainder (record {
        from = omega arith;
        whole = omega arith;
        stands = shows-at now phases p.rest taken all t s.within within ∙ ap (λ b. where_true b (remainder_at now p.rest)) one ∙ s.stands;
        least = λ i from below. none-before now phases (suc p.rest) taken all t (λ x le low. f.before x le low) i (omega arith);
      }) (omega arith) s.follows

  answers : (now : Kept) (phases : ℕ) (taken all : List Bool) → Tick now phases taken all → (o : Option Found)
      → IfSome o (λ p. IsFound now phases p) → (o ≡ None → (r : ℕ) → r < 66 → IsNothing now phases r) → o ≡ found now.e all
  answers now phases taken all t None s n = sym (answers-none now phases taken all t (n refl))
  answers now phases taken all t (Some p) s n = sym (answers-some now phases taken all p t s)

  -- ---- the functions

  tick-of : (old new : Kept) (e : ℕ) (taken : List Bool) (word phases : ℕ) → word < 2 ^ 66 → Took old new word → new.e ≤ 32 → HasHunted old e taken
      → ((r : ℕ) → r < 66 → (bit_at phases r == 1) ≡ all_words (is_good new r) (sync_bit new r) (pattern_size new.e))
      → Tick new phases taken (taken ++ bits 66 word)
  tick-of old new e taken word phases low t most h shown =
      let k = take-keeps old new e taken word low t h.keeps in
      record {
        keeps = record { keeps_size = refl; keeps_count = k.keeps_count; keeps_last = k.keeps_last; keeps_heads = k.keeps_heads };
        most = most;
        longer = (bits 66 word, refl);
        lengths = new-length taken word;
        shown = shown;
        before = ap (λ x. found x taken) (t.e ∙ h.keeps.keeps_size) ∙ h.finds_none;
      }

  pub pushed : (old new : Kept) (e : ℕ) (taken : List Bool) (word phases : ℕ) → word < 2 ^ 66 → Took old new word → new.e ≤ 32 → HasHunted old e taken
      → ((r : ℕ) → r < 66 → (bit_at phases r == 1) ≡ all_words (is_good new r) (sync_bit new r) (pattern_size new.e))
      → (o : Option Found) → IfSome o (λ p. IsFound new phases p) → (o ≡ None → (r : ℕ) → r < 66 → IsNothing new phases r)
      → (o ≡ found e (taken ++ bits 66 word)) × (o ≡ None → HasHunted new e (taken ++ bits 66 word))
  pushed old new e taken word phases low t most h shown o s n =
      let all : List Bool = taken ++ bits 66 word in
      let same : new.e ≡ e = t.e ∙ h.keeps.keeps_size in
      let is : o ≡ found e all = answers new phases taken all (tick-of old new e taken word phases low t most h shown) o s n ∙ ap (λ x. found x all) same in
      (is, λ none. record { keeps = take-keeps old new e taken word low t h.keeps; finds_none = sym is ∙ none })

  pub resumed : (old new now : Kept) (e word rest : ℕ) → rest < 66 → HasHunted old e [] → Took old new (word % 2 ^ rest)
      → now.e ≡ new.e → now.count ≡ rest → now.last ≡ new.last → now.at ≡ new.at → now.heads ≡ new.heads
      → HasHunted now e (drop (66 - rest) (bits 66 word))
  resumed old new now e word rest within h t se sc sl sa sh =
      let taken : List Bool = drop (66 - rest) (bits 66 word) in
      let short : taken ≡ bits rest word = drop-bits (66 - rest) 66 rest word (omega arith) in
      let size : length taken ≡ rest = ap length short ∙ length_of rest word in
      let w : ℕ = word % 2 ^ rest in
      let a : w < 2 ^ rest = mod-lt word (pow_pos rest) in
      let b : 2 ^ rest < 2 ^ 66 = pow-lt within in
      let low : w < 2 ^ 66 = omega arith in
      let k = take-keeps old new e [] w low t h.keeps in
      let v : value ([] ++ bits 66 w) ≡ value taken = (of_bits 66 w ∙ mod-eq_of_lt low) ∙ sym (of_bits rest word) ∙ ap value (sym short) in
      record {
        keeps = record {
          keeps_size = se ∙ k.keeps_size;
          keeps_count = omega arith;
          keeps_last = sl ∙ k.keeps_last ∙ ap (λ x. x % 2 ^ 66) v;
          keeps_heads = λ j lt. (λ i. get_or (sh i) ((sa i + 1023 - j) % 1024) 0) ∙ k.keeps_heads j lt ∙ ap (λ x. x / 2 ^ (66 * j + 64) % 2 ^ 68) v;
        };
        finds_none = too-short e taken (omega arith);
      }
