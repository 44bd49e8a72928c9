-- One block more.
use Rattle.std.proofs.Common.{◌≡◌, ◌≢◌, ℕ, zero, suc, ◌+◌, ◌-◌, ◌*◌, ◌/◌, ◌%◌, ◌<◌, ◌≤◌, Bool, true, false, List, [], ◌∷◌, ◌++◌, map, length, take, drop, get_or, replicate, refl, sym, ◌∙◌, ap, ap₂, append_assoc, append-nil, inl, inr, arith}
use Rattle.std.proofs.lemmas.Bool.{cases_Bool}
use Rattle.std.proofs.lemmas.Grind.{flat_map-append}
use Rattle.std.proofs.lemmas.List.{length-append, map-append, drop_at}
use Rattle.std.proofs.Math.Seq.{take-append-le, drop-append-le, take_all, get_or-append_right}
use Rattle.std.proofs.Math.ListN.{get_or-append, length-drop}
use Rattle.std.specs.List.{flat_map}
use Rattle.jesd_base.specs.Bits.{bits, value, zeros}
use Rattle.jesd_base.proofs.BitLemmas.{bits_length}
use Rattle.link_params.specs.declared.fields.Mode.{Mode}
use Rattle.link_params.specs.declared.fields.Mode.TheVariants.{B, CCrc, CFec}
use Rattle.link_params.specs.declared.fields.Params.{Params}
use Rattle.link_params.specs.Lanes.{Handed}
use Rattle.lane_scramble.specs.Scrambling.{start58}
use Rattle.lane_scramble.proofs.ScrambleLemmas.{keep_length}
use Rattle.block_66b.specs.Blocks.{block}
use Rattle.fire_fec.proofs.Flipping.{payload-length}
use Rattle.multiblock.specs.SyncWords.{sync_word, sync_form, pilot}
use Rattle.lane_c.specs.Sent.{blocks, blocks_of, check, check_before, is_block, is_end, octets_sent, part_of, payload_of, sent_c, word_of, words_from}

-- ---- the octets of all ticks

pub octets_sent-from : (hs : List Handed) (h : Handed) → is_block h.order ≡ true
    → octets_sent (hs ++ h ∷ []) ≡ octets_sent hs ++ h.octets ∷ []
unfolding octets_sent
octets_sent-from [] h is = rw is refl
octets_sent-from (x ∷ hs) h is = elim (cases_Bool (is_block x.order)) [
  | inl begun ↦ rw begun (map-append (λ k. k.octets) (x ∷ hs) (h ∷ []))
  | inr none ↦ rw none (octets_sent-from hs h is)
]

pub octets_sent-silent : (hs : List Handed) (h : Handed) → is_block h.order ≡ false
    → octets_sent hs ≡ [] → octets_sent (hs ++ h ∷ []) ≡ []
unfolding octets_sent
octets_sent-silent [] h silent none = rw silent refl
octets_sent-silent (x ∷ hs) h silent none = elim (cases_Bool (is_block x.order)) [
  | inl begun ↦ let e : map (λ (k : Handed). k.octets) (x ∷ hs) ≡ [] = rw begun at none in cc
  | inr apart ↦ let e : octets_sent hs ≡ [] = rw apart at none in
      rw apart (octets_sent-silent hs h silent e)
]

-- ---- payload bits

pub length-payload : (octets : List ℕ) → length (payload_of octets) ≡ 64 * length octets
length-payload octets = (keep_length 39 58 start58 (flat_map (bits 64) octets)).0
    ∙ payload-length octets

pub octets-more : (octets : List ℕ) (o : ℕ) → flat_map (bits 64) (octets ++ o ∷ [])
    ≡ flat_map (bits 64) octets ++ bits 64 o
octets-more octets o = flat_map-append (bits 64) octets (o ∷ [])
    ∙ ap (λ r. flat_map (bits 64) octets ++ r) (append-nil (bits 64 o))

part_of-stays : (xs ys : List Bool) (j : ℕ) → 2048 * suc j ≤ length xs
    → part_of (xs ++ ys) j ≡ part_of xs j
part_of-stays xs ys j le =
    let l : length (drop (2048 * j) xs) ≡ length xs - 2048 * j = length-drop (2048 * j) xs in
    ap (take 2048) (drop-append-le (2048 * j) xs ys (omega arith))
    ∙ take-append-le 2048 (drop (2048 * j) xs) ys (omega (arith, l))

pub word_of-stays : (p : Params) (xs ys : List Bool) (j : ℕ) → 2048 * j ≤ length xs
    → word_of p (xs ++ ys) j ≡ word_of p xs j
unfolding word_of
word_of-stays p xs ys zero le = refl
word_of-stays p xs ys (suc j) le = ap (λ m. sync_word p.mode (value (check p.mode m)) 0
    (is_end p (suc j))) (part_of-stays xs ys j le)

-- ---- sync bits

length-of_word : (mode : Mode) (c : ℕ) (end : Bool) → mode ≢ B
    → length (sync_word mode c 0 end) ≡ 32
unfolding sync_word sync_form pilot
length-of_word B c end not_b = absurd (not_b refl)
length-of_word CCrc c end not_b = refl
length-of_word CFec c end not_b = refl

pub length-word : (p : Params) (xs : List Bool) (j : ℕ) → p.mode ≢ B → length (word_of p xs j) ≡ 32
unfolding word_of
length-word p xs j not_b = length-of_word p.mode (check_before p.mode xs j) (is_end p j) not_b

-- the sync bit of a block
bit-in-words : (p : Params) (xs : List Bool) → p.mode ≢ B → (n j i k : ℕ) → k < n → i < 32
    → get_or (words_from p xs j n) (32 * k + i) false ≡ get_or (word_of p xs (j + k)) i false
unfolding words_from
bit-in-words p xs not_b zero j i k lt below = absurd (omega arith)
bit-in-words p xs not_b (suc n) j i zero lt below =
    let l = length-word p xs j not_b in
    let z : 32 * 0 + i ≡ i = omega arith in
    let s : j + 0 ≡ j = omega arith in
    rw (z, s) (get_or-append (word_of p xs j) (words_from p xs (suc j) n) false i
    (omega (arith, l)))
bit-in-words p xs not_b (suc n) j i (suc k) lt below =
    let l = length-word p xs j not_b in
    let z : 32 * suc k + i - length (word_of p xs j) ≡ 32 * k + i = omega (arith, l) in
    let s : j + suc k ≡ suc j + k = omega arith in
    get_or-append_right (word_of p xs j) (words_from p xs (suc j) n) (32 * suc k + i) false
    (omega (arith, l))
    ∙ ap (λ m. get_or (words_from p xs (suc j) n) m false) z
    ∙ bit-in-words p xs not_b n (suc j) i k (omega arith) below
    ∙ ap (λ m. get_or (word_of p xs m) i false) (sym s)

-- ---- blocks

-- what is needed for the blocks up to number n to be the same
same-blocks : (sync tync xs ys : List Bool) (n : ℕ) → ((i : ℕ) → i < n
    → get_or tync i false ≡ get_or sync i false) → 64 * n ≤ length xs
    → blocks tync (xs ++ ys) n ≡ blocks sync xs n
unfolding blocks
same-blocks sync tync xs ys zero same le = refl
same-blocks sync tync xs ys (suc n) same le =
    let l : length (drop (64 * n) xs) ≡ length xs - 64 * n = length-drop (64 * n) xs in
    let part : take 64 (drop (64 * n) (xs ++ ys)) ≡ take 64 (drop (64 * n) xs) =
    ap (take 64) (drop-append-le (64 * n) xs ys (omega arith))
    ∙ take-append-le 64 (drop (64 * n) xs) ys (omega (arith, l)) in
    ap₂ {C = List (List Bool)} (λ front b. front ++ b ∷ [])
    (same-blocks sync tync xs ys n (λ i lt. same i (omega arith)) (omega arith))
    (ap₂ block (same n (omega arith)) part)

pub sync-bit : (p : Params) (xs : List Bool) → p.mode ≢ B → (m i : ℕ) → i < 32 * m
    → get_or (words_from p xs 0 m) i false ≡ get_or (word_of p xs (i / 32)) (i % 32) false
sync-bit p xs not_b m i lt =
    let e : 32 * (i / 32) + i % 32 ≡ i = omega arith in
    let z : 0 + i / 32 ≡ i / 32 = omega arith in
    ap (λ k. get_or (words_from p xs 0 m) k false) (sym e)
    ∙ bit-in-words p xs not_b m 0 (i % 32) (i / 32) (omega arith) (omega arith)
    ∙ ap (λ k. get_or (word_of p xs k) (i % 32) false) z

-- the block that comes next
abbrev pub next_block : Params → List ℕ → ℕ → List Bool
next_block p octets y = let n = length octets in block (get_or
    (word_of p (payload_of octets) (n / 32)) (n % 32) false) (bits 64 y)

pub blocks_of-more : (p : Params) (octets : List ℕ) (o y : ℕ) → p.mode ≢ B
    → payload_of (octets ++ o ∷ []) ≡ payload_of octets ++ bits 64 y
    → blocks_of p (octets ++ o ∷ []) ≡ blocks_of p octets ++ next_block p octets y ∷ []
unfolding blocks_of blocks
blocks_of-more p octets o y not_b more =
    let n : ℕ = length octets in
    let xs : List Bool = payload_of octets in
    let ys : List Bool = bits 64 y in
    let l : length xs ≡ 64 * n = length-payload octets in
    let count : length (octets ++ o ∷ []) ≡ suc n = length-append octets (o ∷ []) ∙ omega arith in
    let sync : List Bool = words_from p xs 0 (n / 32 + 1) in
    let tync : List Bool = words_from p (xs ++ ys) 0 (suc n / 32 + 1) in
    let at : (i : ℕ) → i < suc n → get_or tync i false ≡ get_or (word_of p xs (i / 32))
    (i % 32) false = λ i lt.
    sync-bit p (xs ++ ys) not_b (suc n / 32 + 1) i (omega arith)
    ∙ ap (λ w. get_or w (i % 32) false) (word_of-stays p xs ys (i / 32) (omega (arith, l))) in
    let same : (i : ℕ) → i < n → get_or tync i false ≡ get_or sync i false =
    λ i lt. at i (omega arith) ∙ sym (sync-bit p xs not_b (n / 32 + 1) i (omega arith)) in
    let last : take 64 (drop (64 * n) (xs ++ ys)) ≡ ys = ap (take 64) (drop_at xs ys (64 * n) l)
    ∙ take_all 64 ys (let b = bits_length 64 y in omega (arith, b)) in
    ap₂ (λ m zs. blocks (words_from p zs 0 (m / 32 + 1)) zs m) count more
    ∙ ap₂ {C = List (List Bool)} (λ front b. front ++ b ∷ [])
    (same-blocks sync tync xs ys n same (omega (arith, l))) (ap₂ block (at n (omega arith)) last)

-- ---- the bits of all ticks

replicate-more : {A : Type 0} (n : ℕ) (a : A) → replicate (suc n) a ≡ replicate n a ++ a ∷ []
replicate-more zero a = refl
replicate-more {A} (suc n) a = ap {B = List A} (λ r. a ∷ r) (replicate-more n a)

pub sent-silent : (p : Params) (lane : ℕ) (handed : List Handed) (h : Handed)
    → is_block h.order ≡ false → octets_sent handed ≡ []
    → (octets_sent (handed ++ h ∷ []) ≡ []) × (sent_c p lane (handed ++ h ∷ [])
    ≡ sent_c p lane handed ++ bits 66 0 ∷ [])
unfolding sent_c blocks_of blocks bits zeros
sent-silent p lane handed h silent none =
    let z : List Bool = zeros 66 in
    let n : ℕ = length handed in
    let later = octets_sent-silent handed h silent none in
    let count : length (handed ++ h ∷ []) ≡ suc n = length-append handed (h ∷ []) ∙ omega arith in
    let Sent : ℕ → List ℕ → List (List Bool) = λ m os. replicate (m - length os) z
    ++ blocks_of p os in
    let new : Sent (length (handed ++ h ∷ [])) (octets_sent (handed ++ h ∷ []))
    ≡ replicate (suc n) z = ap₂ Sent count later ∙ ap (λ m. replicate m z ++ [])
    (let e : suc n - 0 ≡ suc n = omega arith in e) ∙ append-nil (replicate (suc n) z) in
    let old : Sent n (octets_sent handed) ≡ replicate n z = ap (Sent n) none
    ∙ ap (λ m. replicate m z ++ []) (let e : n - 0 ≡ n = omega arith in e)
    ∙ append-nil (replicate n z) in
    (later, new ∙ replicate-more n z ∙ ap (λ (r : List (List Bool)). r ++ z ∷ []) (sym old))

pub sent-block : (p : Params) (lane : ℕ) (handed : List Handed) (h : Handed) (y : ℕ)
    → is_block h.order ≡ true
    → blocks_of p (octets_sent handed ++ h.octets ∷ []) ≡ blocks_of p (octets_sent handed)
    ++ bits 66 y ∷ []
    → (octets_sent (handed ++ h ∷ []) ≡ octets_sent handed ++ h.octets ∷ [])
    × (sent_c p lane (handed ++ h ∷ []) ≡ sent_c p lane handed ++ bits 66 y ∷ [])
unfolding sent_c
sent-block p lane handed h y is due =
    let later = octets_sent-from handed h is in
    let count : length (handed ++ h ∷ []) ≡ suc (length handed) = length-append handed (h ∷ [])
    ∙ omega arith in
    let more : length (octets_sent handed ++ h.octets ∷ []) ≡ suc (length (octets_sent handed)) =
    length-append (octets_sent handed) (h.octets ∷ []) ∙ omega arith in
    let k : ℕ = length handed - length (octets_sent handed) in
    let same : suc (length handed) - suc (length (octets_sent handed)) ≡ k = omega arith in (
      later,
      rw (later, count, more, same, due) (sym (append_assoc (replicate k (zeros 66))
          (blocks_of p (octets_sent handed)) (bits 66 y ∷ []))),
    )
