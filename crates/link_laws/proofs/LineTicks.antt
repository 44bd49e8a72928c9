-- What an 8b/10b receiver lane takes on a clean line: the words that were sent, d bits later.
use Rattle.std.proofs.Common.{◌≡◌, ℕ, zero, suc, ◌+◌, ◌*◌, ◌/◌, ◌^◌, ◌<◌, ◌≤◌, Bool, false, List, [], ◌∷◌, ◌++◌, length, drop, take, get_or, inl, inr, refl, sym, ap, ap₂, ◌∙◌, append_assoc, length-append, arith}
use Rattle.std.proofs.Math.Nat.{mod-eq_of_lt}
use Rattle.std.proofs.Math.Seq.{drop-append-add, drop-append_seam, take-append_seam}
use Rattle.std.specs.List.{flat_map, list_any}
use Rattle.std.proofs.lemmas.Bool.{cases_lt, or_parts}
use Rattle.std.proofs.lemmas.List.{drop_all, drop_more, get_or_append_left, get_or_push, append-nil}
use Rattle.std.proofs.lemmas.List.Concat.{flat_map-append}
use Rattle.jesd_base.specs.Bits.{bits, value}
use Rattle.jesd_base.proofs.BitLemmas.{bits_length, value_of_bits}
use Rattle.link_params.specs.declared.fields.Mode.TheVariants.{B}
use Rattle.code_8b10b.proofs.Spellings.{ten_bits}
use Rattle.lane_b.specs.Locking.{tens, words_in}
use Rattle.lane_b.specs.Received.{lanes_b}
use Rattle.scenario.specs.Plans.{Plan, numbers_from}
use Rattle.link_model.specs.Run.{run}
use Rattle.link_model.specs.Sends.{sent_bits}
use Rattle.link_model.proofs.LaneHistory.{sent-bits-more}
use Rattle.link_model.specs.Sessions.{at}
use Rattle.link_laws.specs.Laws.{IsPlanRead}
use Rattle.link_laws.proofs.SentChars.{bits-sent, char_sent, rd_sent, spells, word_sent}

-- ---- lists

pub none-of : (n a : ℕ) (f : ℕ → Bool) → list_any f (numbers_from a n) ≡ false → (i : ℕ) → a ≤ i
    → i < a + n → f i ≡ false
unfolding numbers_from
none-of zero a f none i low up = absurd (omega arith)
none-of (suc n) a f none i low up =
    let parts = or_parts (f a) (list_any f (numbers_from (suc a) n)) none in
    elim (cases_lt a i) [
      | inl later ↦ none-of n (suc a) f parts.1 i later (omega arith)
      | inr here ↦ let e : i ≡ a = omega arith in ap f e ∙ parts.0
    ]

-- words of ten bits
abbrev pub AreWords : List ℕ → Type 0
AreWords [] = Unit {0}
AreWords (w ∷ ws) = (w < 1024) × AreWords ws

pub are_words-push : (ws : List ℕ) (w : ℕ) → AreWords ws → w < 1024 → AreWords (ws ++ w ∷ [])
are_words-push [] w all lt = (lt, tt)
are_words-push (x ∷ ws) w all lt = (all.0, are_words-push ws w all.1 lt)

pub are_words-drop : (ws : List ℕ) (n : ℕ) → AreWords ws → AreWords (drop n ws)
are_words-drop ws zero all = all
are_words-drop [] (suc n) all = tt
are_words-drop (w ∷ ws) (suc n) all = are_words-drop ws n all.1

pub length-word_bits : (ws : List ℕ) → length (flat_map (bits 10) ws) ≡ 10 * length ws
length-word_bits [] = refl
length-word_bits (w ∷ ws) =
    let l = length-append (bits 10 w) (flat_map (bits 10) ws) in
    let n = bits_length 10 w in
    let rest = length-word_bits ws in
    omega arith

pub drop-word_bits : (n : ℕ) (ws : List ℕ)
    → drop (10 * n) (flat_map (bits 10) ws) ≡ flat_map (bits 10) (drop n ws)
drop-word_bits zero ws = refl
drop-word_bits (suc n) [] = drop_all (10 * suc n) [] (omega arith)
drop-word_bits (suc n) (w ∷ ws) =
    let e : 10 * suc n ≡ length (bits 10 w) + 10 * n = (let l = bits_length 10 w in omega arith) in
    ap (λ k. drop k (bits 10 w ++ flat_map (bits 10) ws)) e
    ∙ drop-append-add (bits 10 w) (flat_map (bits 10) ws) (10 * n) ∙ drop-word_bits n ws

-- the whole tens of words and less than ten bits are the words
tens-are : (ws : List ℕ) (rest : List Bool) → AreWords ws
    → tens (length ws) (flat_map (bits 10) ws ++ rest) ≡ ws
unfolding tens
tens-are [] rest all = refl
tens-are (w ∷ ws) rest all =
    let ten = bits_length 10 w in
    let is : value (bits 10 w) ≡ w = value_of_bits 10 w
    ∙ mod-eq_of_lt (let lt : w < 2 ^ 10 = all.0 in lt) in
    let assoc = append_assoc (bits 10 w) (flat_map (bits 10) ws) rest in
    let first : take 10 (bits 10 w ++ (flat_map (bits 10) ws ++ rest)) ≡ bits 10 w =
    ap (λ k. take k (bits 10 w ++ (flat_map (bits 10) ws ++ rest))) (sym ten)
    ∙ take-append_seam (bits 10 w) (flat_map (bits 10) ws ++ rest) in
    let after : drop 10 (bits 10 w ++ (flat_map (bits 10) ws ++ rest)) ≡ flat_map (bits 10) ws
    ++ rest =
    ap (λ k. drop k (bits 10 w ++ (flat_map (bits 10) ws ++ rest))) (sym ten)
    ∙ drop-append_seam (bits 10 w) (flat_map (bits 10) ws ++ rest) in
    ap (λ bs. value (take 10 bs) ∷ tens (length ws) (drop 10 bs)) assoc
    ∙ ap₂ (λ x ys. value x ∷ tens (length ws) ys) first after
    ∙ ap₂ (λ x ys. x ∷ ys) is (tens-are ws rest all.1)

pub words_in-are : (ws : List ℕ) (rest : List Bool) → AreWords ws → length rest < 10
    → words_in (flat_map (bits 10) ws ++ rest) ≡ ws
words_in-are ws rest all few =
    let l = length-append (flat_map (bits 10) ws) rest in
    let n = length-word_bits ws in
    let count : length (flat_map (bits 10) ws ++ rest) / 10 ≡ length ws = omega arith in
    ap (λ k. tens k (flat_map (bits 10) ws ++ rest)) count ∙ tens-are ws rest all

-- ---- what was sent

module _ (s : Plan) (lane : ℕ) (read : IsPlanRead s) (mode : s.link.params.mode ≡ B)
    (below : lane < s.link.params.l) where
  -- the words of the first n ticks
  unfoldable pub words_to : ℕ → List ℕ
  words_to zero = []
  words_to (suc n) = words_to n ++ word_sent s lane read mode below n ∷ []

  pub words_to-suc : (n : ℕ) → words_to (suc n) ≡ words_to n ++ word_sent s lane read mode below n
      ∷ []
  unfolding words_to
  words_to-suc n = refl

  pub length-words_to : (n : ℕ) → length (words_to n) ≡ n
  unfolding words_to
  length-words_to zero = refl
  length-words_to (suc n) = let l =
      length-append (words_to n) (word_sent s lane read mode below n ∷ []) in
      let h = length-words_to n in omega arith

  pub word-small : (n : ℕ) → word_sent s lane read mode below n < 1024
  word-small n = ten_bits (rd_sent s lane read mode below n) (char_sent s lane read mode below n)
      (word_sent s lane read mode below n) (spells s lane read mode below n)

  pub are-words : (n : ℕ) → AreWords (words_to n)
  unfolding words_to
  are-words zero = tt
  are-words (suc n) = are_words-push (words_to n) (word_sent s lane read mode below n) (are-words n)
      (word-small n)

  pub sent-words : (n : ℕ) → sent_bits (run lanes_b s n) lane ≡ flat_map (bits 10) (words_to n)
  unfolding words_to run
  sent-words zero = refl
  sent-words (suc n) =
      let w : ℕ = word_sent s lane read mode below n in
      sent-bits-more (run lanes_b s n) (at lanes_b s n) lane
      ∙ ap₂ (λ xs ys. xs ++ ys) (sent-words n) (bits-sent s lane read mode below n)
      ∙ sym (flat_map-append (bits 10) (words_to n) (w ∷ [])
      ∙ ap (λ xs. flat_map (bits 10) (words_to n) ++ xs) (append-nil (bits 10 w)))

  pub words_to-more : (n k : ℕ) → (more : List ℕ) × (words_to (n + k) ≡ words_to n ++ more)
  unfolding words_to
  words_to-more n zero = let e : n + 0 ≡ n = omega arith in
      ([], ap words_to e ∙ sym (append-nil (words_to n)))
  words_to-more n (suc k) =
      let e : n + suc k ≡ suc (n + k) = omega arith in
      let m = words_to-more n k in
      let w : ℕ = word_sent s lane read mode below (n + k) in (
        m.0 ++ w ∷ [],
        ap words_to e ∙ ap (λ ws. ws ++ w ∷ []) m.1
            ∙ append_assoc (words_to n) m.0 (w ∷ []),
      )

  -- word q of them
  pub word-at : (n q : ℕ) → q < n → get_or (words_to n) q 0 ≡ word_sent s lane read mode below q
  unfolding words_to
  word-at zero q lt = absurd (omega arith)
  word-at (suc n) q lt =
      let long = length-words_to n in
      elim (cases_lt q n) [
        | inl early ↦ get_or_append_left (words_to n) (word_sent s lane read mode below n ∷ []) 0 q
            (omega arith) ∙ word-at n q early
        | inr last ↦
            let same : n ≡ q = omega arith in
            get_or_push (words_to n) (word_sent s lane read mode below n) 0 q (omega arith)
            ∙ ap (λ k. word_sent s lane read mode below k) same
      ]

  -- the words from q on
  pub words-from : (n q : ℕ) → q < n → drop q (words_to n) ≡ word_sent s lane read mode below q
      ∷ drop (suc q) (words_to n)
  words-from n q lt =
      let long = length-words_to n in
      let e : q + 1 ≡ suc q = omega arith in
      drop_more (words_to n) q 0 (omega arith) ∙ ap₂ (λ (w k : ℕ). w ∷ drop k (words_to n))
      (word-at n q lt) e
