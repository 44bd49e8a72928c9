-- The blocks of a multiblock after its check, and whether it is misplaced.
use Rattle.std.proofs.Common.{◌≡◌, ◌≢◌, ℕ, zero, suc, ◌+◌, ◌*◌, ◌%◌, ◌^◌, ◌<◌, ◌==◌, min, Bool, true, false, not, ◌&&◌, if◌then◌else◌, List, [], ◌∷◌, ◌++◌, map, length, drop, get_or, Option, Some, None, option_map, refl, sym, ◌∙◌, ap, ap₂, inl, inr, arith, bit_and, subst}
use Rattle.std.proofs.lemmas.Bool.{cases_Bool, cases_eq, cases_lt, true≢false}
use Rattle.std.proofs.lemmas.Bool.Decides.{nat_tests}
use Rattle.std.proofs.lemmas.Nat.{and_le_r, pow_pos}
use Rattle.std.proofs.Math.Nat.{mod-eq_of_lt}
use Rattle.std.proofs.lemmas.Nat.Bits.{bit_at_and, bit_at-lt}
use Rattle.std.proofs.lemmas.List.{drop_at, length-map, take_at, take_all, drop-map, get_or-map, length-drop}
use Rattle.std.specs.Bool.{beq}
use Rattle.std.specs.List.{flat_map}
use Rattle.std.specs.Int.{bit_at}
use Rattle.jesd_base.specs.Bits.{add, all_zero, bits, value, zeros}
use Rattle.jesd_base.proofs.BitLemmas.{bits_length, bits_of_value, value_of_bits}
use Rattle.link_params.specs.declared.fields.Mode.{Mode}
use Rattle.link_params.specs.declared.fields.Mode.TheVariants.{B, CCrc, CFec}
use Rattle.link_params.specs.declared.cells.Mark.{Mark}
use Rattle.link_params.specs.declared.cells.Mark.TheVariants as mark
use Rattle.block_66b.specs.declared.sync_bit.SyncBit.{SyncBit}
use Rattle.block_66b.specs.declared.sync_bit.SyncBit.TheVariants.{Zero, One, Bad}
use Rattle.block_66b.specs.Blocks.{header}
use Rattle.fire_fec.specs.Corrects.{payload_bits}
use Rattle.multiblock.specs.SyncWords.{Carried, carriers, is_check, pilot, read_sync, same_bits, sync_form}
use Rattle.multiblock.specs.Places.{good, pieces}
use Rattle.multiblock.proofs.SyncLemmas.{same-self, same-are}
use Rattle.lane_c.specs.declared.pipeline.Judged.{Judged as JudgedBlocks}
use Rattle.lane_c.specs.declared.pipeline.Multiblock.{Multiblock}
use Rattle.lane_c.specs.Loss.{all_carry, carries, is_bad, is_misplaced}
use Rattle.lane_c.specs.Statuses.{Checked, Judged, checked, checked_by, judged, judged_as, received_check, status_of}
use Rattle.lane_c.specs.kept.Receivers.{AreJudged, HasCome, check_size, is_one, status_at}

-- ---- which carriers are bad

abbrev both : List Bool → List Bool → List Bool
both [] ys = []
both (x ∷ xs) [] = []
both (x ∷ xs) (y ∷ ys) = (x && y) ∷ both xs ys

test-min : (a b : ℕ) → a < 2 → b < 2 → (min a b == 1) ≡ ((a == 1) && (b == 1))
test-min a b p q = elim (cases_lt a 1) [
  | inl low ↦ let e : a ≡ 0 = omega arith in let m : min 0 b ≡ 0 = omega arith in rw (e, m) refl
  | inr one ↦ let e : a ≡ 1 = omega arith in let m : min 1 b ≡ b = omega arith in rw (e, m) refl
]

bits-and : (n x y : ℕ) → bits n (bit_and x y) ≡ both (bits n x) (bits n y)
unfolding bits
bits-and zero x y = refl
bits-and (suc n) x y =
    ap₂ {C = List Bool} (λ b r. b ∷ r) (ap (λ m. m == 1) (bit_at_and x y n)
    ∙ test-min (bit_at x n) (bit_at y n) (bit_at-lt x n) (bit_at-lt y n)) (bits-and n x y)

zero-value : (bs : List Bool) → all_zero bs ≡ (value bs == 0)
unfolding all_zero
zero-value [] = refl
zero-value (true ∷ bs) = let p = pow_pos (length bs) in
    let more : 0 < 1 * 2 ^ length bs + value bs = omega arith in sym (grind (arith, nat_tests))
zero-value (false ∷ bs) = zero-value bs ∙ ap (λ n. n == 0) (omega arith)

-- no carrier is bad: the check
good-step : (t : Bool) (h : SyncBit) (more : List SyncBit) (ones : List Bool)
    → (is_bad h && t) ≡ false → good more ≡ Some ones
    → good (if t then h ∷ more else more) ≡ Some (if t then is_one h ∷ ones else ones)
unfolding good
good-step false h more ones n g = g
good-step true Zero more ones n g = ap (option_map (λ bs. false ∷ bs)) g
good-step true One more ones n g = ap (option_map (λ bs. true ∷ bs)) g
good-step true Bad more ones n g = absurd (true≢false n)

first-zero : (b : Bool) (bs : List Bool) → all_zero (b ∷ bs) ≡ true
    → (b ≡ false) × (all_zero bs ≡ true)
unfolding all_zero
first-zero true bs h = absurd (true≢false (sym h))
first-zero false bs h = (refl, h)

good-carriers : (test : Carried → Bool) (form : List Carried) (hs : List SyncBit)
    → all_zero (both (map is_bad hs) (map test form)) ≡ true
    → good (carriers test form hs) ≡ Some (carriers test form (map is_one hs))
unfolding good carriers
good-carriers test [] hs h = refl
good-carriers test (c ∷ cs) [] h = refl
good-carriers test (c ∷ cs) (x ∷ hs) h =
    let p = first-zero (is_bad x && test c) (both (map is_bad hs) (map test cs)) h in
    good-step (test c) x (carriers test cs hs) (carriers test cs (map is_one hs)) p.0
    (good-carriers test cs hs p.1)

none-step : (t : Bool) (h : SyncBit) (more : List SyncBit) (rest : List Bool)
    → all_zero ((is_bad h && t) ∷ rest) ≡ false → (all_zero rest ≡ false → good more ≡ None)
    → good (if t then h ∷ more else more) ≡ None
unfolding good all_zero
none-step false Zero more rest h g = g h
none-step false One more rest h g = g h
none-step false Bad more rest h g = g h
none-step true Zero more rest h g = ap (option_map (λ bs. false ∷ bs)) (g h)
none-step true One more rest h g = ap (option_map (λ bs. true ∷ bs)) (g h)
none-step true Bad more rest h g = refl

no-carriers : (test : Carried → Bool) (form : List Carried) (hs : List SyncBit)
    → all_zero (both (map is_bad hs) (map test form)) ≡ false
    → good (carriers test form hs) ≡ None
unfolding good carriers all_zero
no-carriers test [] [] h = absurd (true≢false h)
no-carriers test [] (x ∷ hs) h = absurd (true≢false h)
no-carriers test (c ∷ cs) [] h = absurd (true≢false h)
no-carriers test (c ∷ cs) (x ∷ hs) h = none-step (test c) x (carriers test cs hs)
    (both (map is_bad hs) (map test cs)) h (no-carriers test cs hs)

carriers-length : {A C : Type 0} (test : Carried → Bool) (form : List Carried) (xs : List A)
    (ys : List C) → length xs ≡ length ys
    → length (carriers test form xs) ≡ length (carriers test form ys)
unfolding carriers
carriers-length test [] xs ys e = refl
carriers-length test (c ∷ cs) [] [] e = refl
carriers-length test (c ∷ cs) [] (y ∷ ys) e = absurd (omega arith)
carriers-length test (c ∷ cs) (x ∷ xs) [] e = absurd (omega arith)
carriers-length {A} {C} test (c ∷ cs) (x ∷ xs) (y ∷ ys) e =
    let h = carriers-length test cs xs ys (omega arith) in
    elim (cases_Bool (test c)) [ inl t ↦ rw t (ap suc h) | inr f ↦ rw f h ]

check-length : (m : Mode) (xs : List Bool) → m ≢ B → length xs ≡ 32
    → length (carriers is_check (sync_form m) xs) ≡ check_size m
unfolding carriers sync_form pilot zeros
check-length B xs b size = absurd (b refl)
check-length CCrc xs b size = carriers-length is_check (sync_form CCrc) xs (zeros 32) size
check-length CFec xs b size = carriers-length is_check (sync_form CFec) xs (zeros 32) size

-- ---- lists

map-map : {A C D : Type 0} (f : C → D) (g : A → C) (xs : List A)
    → map f (map g xs) ≡ map (λ x. f (g x)) xs
map-map f g [] = refl
map-map f g (x ∷ xs) = ap (λ r. f (g x) ∷ r) (map-map f g xs)

map-same : {A C : Type 0} (f g : A → C) (xs : List A) → ((x : A) → f x ≡ g x) → map f xs ≡ map g xs
map-same f g [] h = refl
map-same {A} {C} f g (x ∷ xs) h = ap₂ {C = List C} (λ y r. y ∷ r) (h x) (map-same f g xs h)

flat-map : {A C : Type 0} (f : A → List C) (xs : List A)
    → flat_map f xs ≡ flat_map (λ x. x) (map f xs)
flat-map f [] = refl
flat-map f (x ∷ xs) = ap (λ r. f x ++ r) (flat-map f xs)

pieces-bits : (n : ℕ) (ps : List ℕ) → length ps ≡ n → pieces n 64 (payload_bits ps)
    ≡ map (bits 64) ps
unfolding pieces
pieces-bits zero [] e = refl
pieces-bits zero (p ∷ ps) e = absurd (omega arith)
pieces-bits (suc n) [] e = absurd (omega arith)
pieces-bits (suc n) (p ∷ ps) e =
    ap₂ {C = List (List Bool)} (λ x r. x ∷ r)
    (take_at (bits 64 p) (payload_bits ps) 64 (bits_length 64 p))
    (ap (pieces n 64) (drop_at (bits 64 p) (payload_bits ps) 64 (bits_length 64 p))
    ∙ pieces-bits n ps (omega arith))

-- ---- the blocks

as-status : (m : Mark) (hs : List SyncBit) (ps : List (List Bool)) → length hs ≡ length ps
    → map (λ (b : Judged). b.status) (judged_as m hs ps) ≡ map (λ h. status_of h m) hs
unfolding judged_as
as-status m [] ps e = refl
as-status m (h ∷ hs) [] e = absurd (omega arith)
as-status m (h ∷ hs) (p ∷ ps) e = ap (λ r. status_of h m ∷ r) (as-status m hs ps (omega arith))

as-payload : (m : Mark) (hs : List SyncBit) (ps : List (List Bool)) → length hs ≡ length ps
    → map (λ (b : Judged). b.payload) (judged_as m hs ps) ≡ ps
unfolding judged_as
as-payload m [] [] e = refl
as-payload m [] (p ∷ ps) e = absurd (omega arith)
as-payload m (h ∷ hs) [] e = absurd (omega arith)
as-payload m (h ∷ hs) (p ∷ ps) e = ap (λ r. p ∷ r) (as-payload m hs ps (omega arith))

status-same : (now : JudgedBlocks) (h : SyncBit) → status_at now (is_bad h) ≡ status_of h now.mark
status-same now Zero = refl
status-same now One = refl
status-same now Bad = refl

are-judged : (now : JudgedBlocks) (blocks : List (List Bool)) → length now.payload ≡ 32
    → length blocks ≡ 32 → bits 32 now.bad ≡ map (λ b. is_bad (header b)) blocks
    → AreJudged now (judged_as now.mark (map header blocks)
    (pieces 32 64 (payload_bits now.payload)))
are-judged now blocks long size bad =
    let ps : pieces 32 64 (payload_bits now.payload) ≡ map (bits 64) now.payload =
    pieces-bits 32 now.payload long in
    let n : length (map header blocks) ≡ length (pieces 32 64 (payload_bits now.payload)) =
    length-map blocks header ∙ size ∙ sym (ap length ps ∙ length-map now.payload (bits 64)
    ∙ long) in
    record {
      statuses = ap (map (status_at now)) bad ∙ map-map (status_at now)
          (λ b. is_bad (header b)) blocks
          ∙ map-same (λ b. status_at now (is_bad (header b)))
          (λ b. status_of (header b) now.mark) blocks (λ b. status-same now (header b))
          ∙ sym (map-map (λ h. status_of h now.mark) header blocks)
          ∙ sym (as-status now.mark (map header blocks)
          (pieces 32 64 (payload_bits now.payload)) n);
      payload = sym ps ∙ sym (as-payload now.mark (map header blocks)
          (pieces 32 64 (payload_bits now.payload)) n);
    }

come-bad : (now : Multiblock) (blocks : List (List Bool)) → length blocks ≡ 32 → HasCome now blocks
    → bits 32 now.bad ≡ map (λ b. is_bad (header b)) blocks
come-bad now blocks size h = ap (λ n. bits n now.bad) (sym size) ∙ h.bad

come-payload : (now : Multiblock) (blocks : List (List Bool)) → length now.payload ≡ 32
    → length blocks ≡ 32 → HasCome now blocks → flat_map (drop 2) blocks ≡ payload_bits now.payload
come-payload now blocks long size h =
    flat-map (drop 2) blocks ∙ ap (flat_map (λ x. x)) (sym h.payload)
    ∙ ap (λ ps. flat_map (λ x. x) (map (bits 64) ps))
    (take_all (length blocks) now.payload (omega arith))
    ∙ sym (flat-map (bits 64) now.payload)

-- the blocks as a check says
by-check : (mode : Mode) (now : JudgedBlocks) (blocks after : List (List Bool))
    (payload : List Bool) (c : Option (List Bool)) → length now.payload ≡ 32 → length blocks ≡ 32
    → bits 32 now.bad ≡ map (λ b. is_bad (header b)) blocks → flat_map (drop 2) blocks ≡ payload
    → received_check mode (map header after) ≡ c
    → checked_by mode payload c ≡ record { mark = now.mark; payload = payload_bits now.payload }
    → AreJudged now (judged mode blocks after)
unfolding judged
by-check mode now blocks after payload c long size bad is rc h =
    let P : Checked → Type 0 = λ k. AreJudged now (judged_as k.mark (map header blocks)
    (pieces 32 64 k.payload)) in
    subst P (sym (ap₂ (checked_by mode) is rc ∙ h)) (are-judged now blocks long size bad)

module _ (mode : Mode) (old next : Multiblock) (mask : ℕ) (blocks after : List (List Bool))
    (not_b : mode ≢ B) (is_mask : bits 32 mask ≡ map is_check (sync_form mode))
    (size : length blocks ≡ 32) (more : length after ≡ 32) (come : HasCome old blocks)
    (next_come : HasCome next after) (long : length old.payload ≡ 32) where
  flags : all_zero (both (map is_bad (map header after)) (map is_check (sync_form mode)))
      ≡ (value (bits 32 (bit_and next.bad mask)) == 0)
  flags =
      ap all_zero (ap₂ both (map-map is_bad header after ∙ sym (come-bad next after more next_come))
      (sym is_mask) ∙ sym (bits-and 32 next.bad mask))
      ∙ zero-value (bits 32 (bit_and next.bad mask))

  -- a carrier is bad
  pub judged-bad : bit_and next.bad mask ≢ 0 → mask < 2 ^ 32
      → AreJudged (record { mark = mark.Bad; bad = old.bad; payload = old.payload })
      (judged mode blocks after)
  unfolding checked_by
  judged-bad some small =
      let low : bit_and next.bad mask < 2 ^ 32 = omega (arith, and_le_r next.bad mask) in
      let v : value (bits 32 (bit_and next.bad mask)) ≡ bit_and next.bad mask =
      value_of_bits 32 (bit_and next.bad mask) ∙ mod-eq_of_lt low in
      let positive : 0 < bit_and next.bad mask = omega (arith, some) in
      let test : (bit_and next.bad mask == 0) ≡ false = grind (arith, nat_tests) in
      let none = no-carriers is_check (sync_form mode) (map header after)
      (flags ∙ ap (λ n. n == 0) v ∙ test) in
      by-check mode (record { mark = mark.Bad; bad = old.bad; payload = old.payload }) blocks after
      (payload_bits old.payload) None long size (come-bad old blocks size come)
      (come-payload old blocks long size come) none refl

  -- the check came
  pub judged-by : (m : Mark) (new : List ℕ) (c : ℕ) → length new ≡ 32 → bit_and next.bad mask ≡ 0
      → c ≡ (read_sync mode (bits 32 next.word)).check
      → ((cs : List Bool) → length cs ≡ check_size mode → c ≡ value cs
      → checked mode (payload_bits old.payload) cs ≡ record {
        mark = m;
        payload =
            payload_bits new;
      })
      → AreJudged (record { mark = m; bad = old.bad; payload = new }) (judged mode blocks after)
  unfolding checked_by read_sync
  judged-by m new c kept none is h =
      let word : bits 32 next.word ≡ map is_one (map header after) =
      ap (λ n. bits n next.word) (sym more) ∙ next_come.word
      ∙ sym (map-map is_one header after) in
      let cs : List Bool = carriers is_check (sync_form mode) (map is_one (map header after)) in
      let v : value (bits 32 (bit_and next.bad mask)) ≡ 0 = value_of_bits 32 (bit_and next.bad mask)
      ∙ ap (λ n. n % 2 ^ 32) none in
      let some = good-carriers is_check (sync_form mode) (map header after)
      (flags ∙ ap (λ n. n == 0) v) in
      by-check mode (record { mark = m; bad = old.bad; payload = new }) blocks after
      (payload_bits old.payload) (Some cs) kept size (come-bad old blocks size come)
      (come-payload old blocks long size come) some
      (h cs (check-length mode (map is_one (map header after)) not_b
      (length-map (map header after) is_one ∙ length-map after header ∙ more))
      (is ∙ ap (λ w. value (carriers is_check (sync_form mode) w)) word))

-- ---- misplaced multiblocks

carries-is : (h : SyncBit) (b : Bool) → carries h b ≡ (not (is_bad h) && not (add (is_one h) b))
carries-is Zero true = refl
carries-is Zero false = refl
carries-is One true = refl
carries-is One false = refl
carries-is Bad b = refl

same-end : (x y : Bool) → not (add x y) ≡ beq x y
same-end true true = refl
same-end true false = refl
same-end false true = refl
same-end false false = refl

four : (a b c d : Bool) → ((a && b) && (c && d)) ≡ ((a && c) && (b && d))
four true b true d = refl
four true true false d = refl
four true false false d = refl
four false b c d = refl

zero-first : (b : Bool) (bs : List Bool) → all_zero (b ∷ bs) ≡ (not b && all_zero bs)
unfolding all_zero
zero-first true bs = refl
zero-first false bs = refl

carry-flags : (hs : List SyncBit) (bs : List Bool) → length hs ≡ length bs
    → all_carry hs bs ≡ (all_zero (map is_bad hs) && same_bits (map is_one hs) bs)
unfolding all_carry all_zero same_bits
carry-flags [] [] e = refl
carry-flags [] (b ∷ bs) e = absurd (omega arith)
carry-flags (h ∷ hs) [] e = absurd (omega arith)
carry-flags (h ∷ hs) (b ∷ bs) e =
    ap₂ (λ x y. x && y) (carries-is h b) (carry-flags hs bs (omega arith))
    ∙ four (not (is_bad h)) (not (add (is_one h) b)) (all_zero (map is_bad hs))
    (same_bits (map is_one hs) bs)
    ∙ ap (λ z. z && (not (add (is_one h) b) && same_bits (map is_one hs) bs))
    (sym (zero-first (is_bad h) (map is_bad hs)))

one-bits : bits 5 1 ≡ pilot
unfolding bits pilot
one-bits = refl

pilot-size : 5 ≡ length pilot
unfolding pilot
pilot-size = refl

pilot-value : (xs : List Bool) → length xs ≡ 5 → same_bits xs pilot ≡ (value xs == 1)
unfolding pilot
pilot-value xs size = elim (cases_Bool (same_bits xs pilot)) [
  | inl t ↦ t ∙ sym (ap (λ r. value r == 1) (same-are xs pilot t))
  | inr f ↦ elim (cases_eq (value xs) 1) [
    | inl one ↦
        let e : xs ≡ pilot = sym (bits_of_value xs) ∙ ap₂ bits size one ∙ one-bits in
        absurd (true≢false (sym (same-self pilot) ∙ ap (λ r. same_bits r pilot) (sym e) ∙ f))
    | inr apart ↦ let test : (value xs == 1) ≡ false = grind (arith, nat_tests) in f ∙ sym test
  ]
]

pub misplaced-is : (now : Multiblock) (blocks : List (List Bool)) (end : Bool) → length blocks ≡ 32
    → HasCome now blocks
    → not ((not (get_or (bits 32 now.bad) 22 false) && beq (get_or (bits 32 now.word) 22 false) end)
    && ((value (drop 27 (bits 32 now.bad)) == 0) && (value (drop 27 (bits 32 now.word)) == 1)))
    ≡ is_misplaced end (map header blocks)
unfolding is_misplaced all_carry
misplaced-is now blocks end size h =
    let hs : List SyncBit = map header blocks in
    let n : length hs ≡ 32 = length-map blocks header ∙ size in
    let bad : bits 32 now.bad ≡ map is_bad hs = come-bad now blocks size h
    ∙ sym (map-map is_bad header blocks) in
    let word : bits 32 now.word ≡ map is_one hs = ap (λ k. bits k now.word) (sym size) ∙ h.word
    ∙ sym (map-map is_one header blocks) in
    let last : List SyncBit = drop 27 hs in
    let m : length last ≡ 5 = length-drop 27 hs ∙ omega arith in
    let x : SyncBit = get_or hs 22 Bad in
    let b : get_or (bits 32 now.bad) 22 false ≡ is_bad x = ap (λ r. get_or r 22 false) bad
    ∙ get_or-map is_bad hs 22 Bad false (omega arith) in
    let o : get_or (bits 32 now.word) 22 false ≡ is_one x = ap (λ r. get_or r 22 false) word
    ∙ get_or-map is_one hs 22 Bad false (omega arith) in
    let z : (value (drop 27 (bits 32 now.bad)) == 0) ≡ all_zero (map is_bad last) =
    sym (zero-value (drop 27 (bits 32 now.bad))) ∙ ap all_zero
    (ap (drop 27) bad ∙ drop-map is_bad 27 hs) in
    let q : drop 27 (bits 32 now.word) ≡ map is_one last = ap (drop 27) word
    ∙ drop-map is_one 27 hs in
    let p : (value (drop 27 (bits 32 now.word)) == 1) ≡ same_bits (map is_one last) pilot =
    ap (λ r. value r == 1) q ∙ sym (pilot-value (map is_one last) (length-map last is_one ∙ m)) in
    ap not (ap₂ (λ u v. u && v)
    (ap₂ (λ u v. not u && v) b (ap (λ u. beq u end) o ∙ sym (same-end (is_one x) end))
    ∙ sym (carries-is x end))
    (ap₂ (λ u v. u && v) z p ∙ sym (carry-flags last pilot (m ∙ pilot-size))))
