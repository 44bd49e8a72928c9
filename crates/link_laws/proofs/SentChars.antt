-- What an 8b/10b lane sends in each tick: the spelling of a character, in one chain of disparities
-- since the transmitter's reset.
use Rattle.std.proofs.Common.{◌≡◌, ℕ, zero, suc, ◌+◌, ◌-◌, ◌*◌, ◌/◌, ◌%◌, ◌^◌, ◌<◌, ◌≤◌, if◌then◌else◌, Bool, true, false, List, [], ◌∷◌, ◌++◌, length, map, drop, take, get_or, ◌==◌, ◌&&◌, nat_le, Option, Some, None, unwrap_or, IsSome, inl, inr, refl, sym, subst, ap, ◌∙◌, length-append, length-drop, length-take-le, arith}
use Rattle.std.specs.List.{flat_map, slice_index}
use Rattle.std.proofs.lemmas.Bool.{cases_Bool}
use Rattle.std.proofs.lemmas.List.{map-append, drop-map}
use Rattle.jesd_base.specs.Bits.{bits, value}
use Rattle.jesd_base.proofs.BitLemmas.{bits_length, value_below}
use Rattle.link_params.specs.declared.alarms.Device.TheVariants.{Tx}
use Rattle.link_params.specs.declared.fields.Mode.TheVariants.{B}
use Rattle.link_params.specs.declared.fields.Params.{Params}
use Rattle.link_params.specs.declared.orders.TxOrder.{TxOrder}
use Rattle.link_params.specs.declared.orders.TxOrder.TheVariants.{Comma, Ilas, Data as DataOrder, Silent, Block}
use Rattle.link_params.specs.Lanes.{Handed}
use Rattle.link_params.specs.Config.{config_octets, one_if}
use Rattle.link_params.proofs.ConfigFacts.{config_octets-is}
use Rattle.code_8b10b.specs.declared.character.Rd.{Rd}
use Rattle.code_8b10b.specs.declared.character.Rd.TheVariants.{Minus}
use Rattle.code_8b10b.specs.declared.character.Char.{Char}
use Rattle.code_8b10b.specs.declared.character.Char.TheVariants.{Data, Control}
use Rattle.code_8b10b.specs.Code.{after, spelling}
use Rattle.lane_scramble.specs.Scrambling.{scrambled15, start15}
use Rattle.lane_scramble.proofs.ScrambleLemmas.{keep_length}
use Rattle.link_params.specs.Numbers.{period}
use Rattle.ilas.specs.Sequence.{ilas_char}
use Rattle.lane_b.specs.Received.{lanes_b}
use Rattle.link_params.specs.Laws.{broken_law, is_b}
use Rattle.link_params.proofs.LawFacts.{rooms}
use Rattle.lane_b.specs.Sent.{char_of, coded_octets, scrambled_octets, data_char, data_octets, going_on, is_first_data, octets_of, replaced, sent_words}
use Rattle.lane_b.specs.kept.Senders.{HasSpellings, rd_after}
use Rattle.lane_b.proofs.Spelled.{comma-spelled, due-spelled, ilas-spelled}
use Rattle.lane_b.proofs.SentWords.{rd_after-more, sent_words-more}
use Rattle.scenario.specs.Plans.{Plan}
use Rattle.link_model.specs.Edges.{is_reset, last_reset}
use Rattle.link_model.specs.Moments.{History, Moment}
use Rattle.link_model.specs.Sends.{handed_since, last_of, sent_by}
use Rattle.link_model.specs.Run.{run}
use Rattle.link_model.proofs.LaneHistory.{sent-lane}
use Rattle.link_model.proofs.TxHistory.{drop-reset-before, last-reset-before}
use Rattle.link_model.specs.Sessions.{at}
use Rattle.link_laws.specs.Laws.{IsPlanRead}
use Rattle.link_laws.proofs.SmallOctets.{handed-small}
use Rattle.link_model.proofs.RunTicks.{length-run, run-suc}

-- ---- octets

value-eight : (bs : List Bool) → length bs ≡ 8 → value bs < 256
value-eight bs e = let v = value_below bs in let p : 2 ^ length bs ≡ 256 = rw e refl in omega arith

abbrev pub AreSmall : List ℕ → Type 0
AreSmall xs = (k : ℕ) → get_or xs k 0 < 256

pub small-none : AreSmall []
small-none k = omega arith

pub small-push : (xs : List ℕ) (x : ℕ) → AreSmall xs → x < 256 → AreSmall (xs ++ x ∷ [])
small-push [] x all lt zero = lt
small-push [] x all lt (suc k) = omega arith
small-push (y ∷ ys) x all lt zero = all zero
small-push (y ∷ ys) x all lt (suc k) = small-push ys x (λ j. all (suc j)) lt k

octets_of-small : (n : ℕ) (bs : List Bool) → length bs ≡ 8 * n → AreSmall (octets_of n bs)
unfolding octets_of
octets_of-small zero bs e k = omega arith
octets_of-small (suc n) bs e zero = value-eight (take 8 bs) (length-take-le 8 bs (omega arith))
octets_of-small (suc n) bs e (suc k) =
    octets_of-small n (drop 8 bs) (length-drop 8 bs ∙ omega arith) k

-- ---- what the lane is handed

abbrev HandedSmall : List Handed → Type 0
HandedSmall [] = Unit {0}
HandedSmall (h ∷ hs) = (h.octets < 256) × HandedSmall hs

handed_small-push : (hs : List Handed) (h : Handed) → HandedSmall hs → h.octets < 256
    → HandedSmall (hs ++ h ∷ [])
handed_small-push [] h all lt = (lt, tt)
handed_small-push (x ∷ hs) h all lt = (all.0, handed_small-push hs h all.1 lt)

handed_small-drop : (hs : List Handed) (n : ℕ) → HandedSmall hs → HandedSmall (drop n hs)
handed_small-drop hs zero all = all
handed_small-drop [] (suc n) all = tt
handed_small-drop (x ∷ hs) (suc n) all = handed_small-drop hs n all.1

data-small : (hs : List Handed) (octets : List ℕ) → HandedSmall hs → AreSmall octets
    → AreSmall (data_octets octets hs)
unfolding data_octets
data-small [] octets all small = small
data-small (h ∷ hs) octets all small = data-small hs (going_on octets h) all.1
    (elim (cases_Bool (is_first_data h.order)) [
      | inl first ↦ rw first (small-push [] h.octets small-none all.0)
      | inr later ↦ rw later (small-push octets h.octets small all.0)
    ])

pub length-octet_bits : (octets : List ℕ) → length (flat_map (bits 8) octets) ≡ 8 * length octets
length-octet_bits [] = refl
length-octet_bits (o ∷ octets) =
    let l = length-append (bits 8 o) (flat_map (bits 8) octets) in
    let n = bits_length 8 o in
    let rest = length-octet_bits octets in
    omega arith

scrambled-small : (octets : List ℕ) → AreSmall (scrambled_octets octets)
scrambled-small octets =
    octets_of-small (length octets) (scrambled15 (flat_map (bits 8) octets))
    ((keep_length 14 15 start15 (flat_map (bits 8) octets)).0 ∙ length-octet_bits octets)

coded-small : (p : Params) (octets : List ℕ) → AreSmall octets → AreSmall (coded_octets p octets)
coded-small p octets small = elim (cases_Bool p.scr) [
  | inl scr ↦ rw scr (scrambled-small octets)
  | inr plain ↦ rw plain small
]

data-spells : (p : Params) (octets : List ℕ) → AreSmall octets → HasSpellings (data_char p octets)
unfolding data_char
data-spells p octets small =
    let n : ℕ = length octets - 1 in
    due-spelled p (coded_octets p octets) (replaced p (coded_octets p octets) n) n
    (coded-small p octets small n)

-- ---- the alignment sequence's octets

one-small : (b : Bool) → one_if b ≤ 1
one-small true = omega arith
one-small false = omega arith

abbrev SmallEach : List ℕ → Type 0
SmallEach [] = Unit {0}
SmallEach (x ∷ xs) = (x < 256) × SmallEach xs

small-each : (xs : List ℕ) → SmallEach xs → AreSmall xs
small-each [] all k = omega arith
small-each (x ∷ xs) all zero = all.0
small-each (x ∷ xs) all (suc k) = small-each xs all.1 k

small-config : (p : Params) (lane : ℕ) → broken_law p ≡ None → is_b p.mode ≡ true → lane < p.l
    → (k : ℕ) → get_or (config_octets p lane) k 0 < 256
small-config p lane laws b below k =
    let room = rooms p laws b in
    let rl = room.l in
    let rf = room.f in
    let rk = room.k in
    let rm = room.m in
    let rcs = room.cs in
    let rn = room.n in
    let rnp = room.np in
    let rs = room.s in
    let scr : one_if p.scr ≤ 1 = one-small p.scr in
    let hd : one_if p.hd ≤ 1 = one-small p.hd in
    let P : List ℕ → Type 0 = AreSmall in
    subst P (config_octets-is p lane (one_if p.scr) (one_if p.hd) refl refl)
    (small-each (0 ∷ 0 ∷ lane ∷ (128 * one_if p.scr + (p.l - 1)) ∷ (p.f - 1) ∷ (p.k - 1) ∷ (p.m - 1)
    ∷ (64 * p.cs + (p.n - 1)) ∷ (32 + (p.np - 1))
    ∷ (32 + (p.s - 1)) ∷ 128 * one_if p.hd ∷ 0 ∷ 0
    ∷ (lane + one_if p.scr + (p.l - 1) + (p.f - 1) + (p.k - 1) + (p.m - 1) + p.cs + (p.n - 1) + 1
    + (p.np - 1) + 1 + (p.s - 1) + one_if p.hd) % 256 ∷ []) (
      omega arith,
      (
        omega arith,
        (
          omega arith,
          (
            omega arith,
            (
              omega arith,
              (
                omega arith,
                (
                  omega arith,
                  (
                    omega arith,
                    (
                      omega arith,
                      (omega arith, (omega arith, (omega arith, (omega arith, (omega arith, tt))))),
                    ),
                  ),
                ),
              ),
            ),
          ),
        ),
      ),
    )) k

data-only : (a b : ℕ) → Data a ≡ Data b → a ≡ b
data-only a b e = cc

five-data : (a b c d : Bool) (v w o : ℕ) → v < 256 → w < 256
    → (if a then Control 0x1C else
    (if b then Control 0x7C else (if c then Control 0x9C else (if d then Data v else Data w))))
    ≡ Data o → o < 256
five-data true b c d v w o sv sw e = cc
five-data false true c d v w o sv sw e = cc
five-data false false true d v w o sv sw e = cc
five-data false false false true v w o sv sw e = let f = data-only v o e in omega arith
five-data false false false false v w o sv sw e = let f = data-only w o e in omega arith

-- what a place of the sequence is, where it is data
ilas-small : (p : Params) (lane x o : ℕ) → broken_law p ≡ None → is_b p.mode ≡ true → lane < p.l
    → ilas_char p lane x ≡ Data o → o < 256
unfolding ilas_char
ilas-small p lane x o laws b below e =
    let n : ℕ = period p in
    let config = small-config p lane laws b below (x % n - 2) in
    five-data (x % n == 0) (x % n + 1 == n) ((x / n == 1) && (x % n == 1))
    ((x / n == 1) && nat_le (x % n) 15) (get_or (config_octets p lane) (x % n - 2) 0)
    (x % 256) o config (omega arith) e

-- each place of the sequence has spellings
ilas-octets : (p : Params) (lane x : ℕ) → broken_law p ≡ None → is_b p.mode ≡ true → lane < p.l
    → HasSpellings (ilas_char p lane x)
ilas-octets p lane x laws b below = ilas-spelled p lane x (ilas_char p lane x) refl
    (λ o e. ilas-small p lane x o laws b below e)

last_of-push : (xs : List (List Bool)) (d x : List Bool) → last_of d (xs ++ x ∷ []) ≡ x
unfolding last_of
last_of-push [] d x = refl
last_of-push (y ∷ ys) d x = last_of-push ys y x

last-word : (ws : List ℕ) (w : ℕ) → last_of [] (map (bits 10) (ws ++ w ∷ [])) ≡ bits 10 w
last-word ws w = ap (last_of []) (map-append (bits 10) ws (w ∷ []))
    ∙ last_of-push (map (bits 10) ws) [] (bits 10 w)

-- ---- the lane's ticks

module _ (s : Plan) (lane : ℕ) (read : IsPlanRead s) (mode : s.link.params.mode ≡ B)
    (below : lane < s.link.params.l) where
  -- what the lane was handed since the reset, before tick q, and in it
  abbrev pub handed_by : ℕ → List Handed
  handed_by q = handed_since s (run lanes_b s q) lane

  abbrev pub handed_at : ℕ → Handed
  handed_at q =
      record { order = (at lanes_b s q).order; octets = slice_index (at lanes_b s q).handed lane }

  -- the character that is sent in tick q, the disparity before it, and its word
  abbrev pub char_sent : ℕ → Char
  char_sent q = char_of s.link.params lane (handed_by q ++ handed_at q ∷ []) (at lanes_b s q).order

  abbrev pub rd_sent : ℕ → Rd
  rd_sent q = rd_after Minus (sent_words s.link.params lane (handed_by q))

  abbrev pub word_sent : ℕ → ℕ
  word_sent q = unwrap_or (spelling (rd_sent q) (char_sent q)) 0

  pub octet-small : (q : ℕ) → slice_index (at lanes_b s q).handed lane < 256
  octet-small q = handed-small s (run lanes_b s q) lane mode

  all-small : (q : ℕ)
      → HandedSmall
      (map (λ (m : Moment). let x : Handed =
      record { order = m.order; octets = slice_index m.handed lane } in x) (run lanes_b s q))
  unfolding run
  all-small zero = tt
  all-small (suc q) =
      rw (map-append (λ (m : Moment). let x : Handed =
      record { order = m.order; octets = slice_index m.handed lane } in x) (run lanes_b s q)
      (at lanes_b s q ∷ []))
      (handed_small-push _ (handed_at q) (all-small q) (octet-small q))

  by-small : (q : ℕ) → HandedSmall (handed_by q)
  unfolding handed_since
  by-small q =
      rw (← drop-map (λ (m : Moment). let x : Handed =
      record { order = m.order; octets = slice_index m.handed lane } in x)
      (last_reset s Tx (length (run lanes_b s q))) (run lanes_b s q))
      (handed_small-drop
      (map (λ (m : Moment). let x : Handed =
      record { order = m.order; octets = slice_index m.handed lane } in x) (run lanes_b s q))
      (last_reset s Tx (length (run lanes_b s q))) (all-small q))

  char-spelled : (q : ℕ) (o : TxOrder)
      → HasSpellings (char_of s.link.params lane (handed_by q ++ handed_at q ∷ []) o)
  char-spelled q Comma = comma-spelled
  char-spelled q (Ilas x) = ilas-octets s.link.params lane x read.laws (ap is_b mode) below
  char-spelled q (DataOrder x first) =
      data-spells s.link.params (data_octets [] (handed_by q ++ handed_at q ∷ []))
      (data-small (handed_by q ++ handed_at q ∷ []) []
      (handed_small-push (handed_by q) (handed_at q) (by-small q) (octet-small q)) small-none)
  char-spelled q Silent = comma-spelled
  char-spelled q (Block x first) = comma-spelled

  is-some : {A : Type 0} → (o : Option A) → (d : A) → IsSome o → o ≡ Some (unwrap_or o d)
  is-some (Some x) d some = refl
  is-some None d some = let bad : false ≡ true = some in absurd (cc)

  pub spells : (q : ℕ) → spelling (rd_sent q) (char_sent q) ≡ Some (word_sent q)
  spells q = is-some (spelling (rd_sent q) (char_sent q)) 0
      ((char-spelled q (at lanes_b s q).order).at (rd_sent q))

  pub words-more : (q : ℕ) → sent_words s.link.params lane (handed_by q ++ handed_at q ∷ [])
      ≡ sent_words s.link.params lane (handed_by q) ++ word_sent q ∷ []
  words-more q = sent_words-more s.link.params lane (handed_by q) (handed_at q) (char_sent q)
      (rd_sent q) (word_sent q) refl refl (spells q)

  -- the bits that are sent in tick q
  pub bits-sent : (q : ℕ) → get_or (at lanes_b s q).sent lane [] ≡ bits 10 (word_sent q)
  unfolding sent_by
  bits-sent q =
      sent-lane lanes_b s (run lanes_b s q) lane below
      ∙ ap (λ ws. last_of [] (map (bits 10) ws)) (words-more q)
      ∙ last-word (sent_words s.link.params lane (handed_by q)) (word_sent q)

  -- without a reset the chain goes on
  pub handed-next : (q : ℕ) → is_reset s Tx (suc q) ≡ false → handed_by (suc q) ≡ handed_by q
      ++ handed_at q ∷ []
  unfolding handed_since
  handed-next q quiet =
      let f : Moment → Handed =
      λ m. record { order = m.order; octets = slice_index m.handed lane } in
      let long = length-run lanes_b s (suc q) in
      let none : is_reset s Tx (length (run lanes_b s q ++ at lanes_b s q ∷ [])) ≡ false =
      ap (λ l. is_reset s Tx (length l)) (sym (run-suc lanes_b s q)) ∙ ap (is_reset s Tx) long
      ∙ quiet in
      ap (λ (l : History). map f (drop (last_reset s Tx (length l)) l)) (run-suc lanes_b s q)
      ∙ ap (λ (k : ℕ). map f (drop k (run lanes_b s q ++ at lanes_b s q ∷ [])))
      (last-reset-before s Tx (length (run lanes_b s q ++ at lanes_b s q ∷ [])) none)
      ∙ ap (map f) (drop-reset-before s Tx (run lanes_b s q) (at lanes_b s q))
      ∙ map-append f (drop (last_reset s Tx (length (run lanes_b s q))) (run lanes_b s q))
      (at lanes_b s q ∷ [])

  pub rd-next : (q : ℕ) → is_reset s Tx (suc q) ≡ false
      → rd_sent (suc q) ≡ after (rd_sent q) (word_sent q)
  rd-next q quiet =
      ap (λ hs. rd_after Minus (sent_words s.link.params lane hs)) (handed-next q quiet)
      ∙ ap (rd_after Minus) (words-more q)
      ∙ rd_after-more (sent_words s.link.params lane (handed_by q)) (word_sent q) Minus
