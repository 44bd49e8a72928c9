-- What an 8b/10b lane sends from a first place on: the alignment sequence, and then the characters
-- that carry the data octets.
use Rattle.std.proofs.Common.{◌≡◌, ℕ, zero, suc, ◌+◌, ◌-◌, ◌*◌, ◌%◌, ◌<◌, ◌≤◌, ◌==◌, nat_lt, Bool, false, List, [], ◌∷◌, ◌++◌, length, take, drop, reverse, get_or, inl, inr, refl, sym, ap, ap₂, ◌∙◌, append_assoc, append-nil, length-append, length-drop, arith}
use Rattle.std.specs.List.{flat_map, slice_index}
use Rattle.std.proofs.Math.ListN.{get_or-append}
use Rattle.std.proofs.lemmas.Bool.{cases_Bool, cases_lt, cond-true, cond-false, eq-eqb, eqb-false, eqb-true, ne_eqb, le-ltb, lt-ltb}
use Rattle.std.proofs.lemmas.List.{drop-append-le, get_or_append_left, get_or_push, take-append-le}
use Rattle.std.proofs.lemmas.List.Concat.{flat_map-append}
use Rattle.jesd_base.specs.Bits.{bits, value}
use Rattle.link_params.specs.declared.alarms.Device.TheVariants.{Tx}
use Rattle.link_params.specs.declared.fields.Mode.TheVariants.{B}
use Rattle.link_params.specs.declared.fields.Params.{Params}
use Rattle.link_params.specs.declared.orders.TxOrder.TheVariants.{Ilas, Data as DataOrder}
use Rattle.link_params.specs.Lanes.{Handed}
use Rattle.link_params.specs.Numbers.{period}
use Rattle.code_8b10b.specs.declared.character.Char.{Char}
use Rattle.code_8b10b.specs.declared.character.Char.TheVariants.{Data}
use Rattle.lane_scramble.specs.Scrambling.{scrambled, scrambled15, start15}
use Rattle.lane_scramble.proofs.ScrambleLemmas.{goes_in_parts, keep_length}
use Rattle.char_replace.specs.Replacement.{char_due}
use Rattle.ilas.specs.Sequence.{ilas_char}
use Rattle.lane_b.specs.Sent.{char_of, coded_octets, data_char, data_octets, going_on, octets_of, replaced, scrambled_octets}
use Rattle.lane_b.specs.Received.{lanes_b}
use Rattle.lane_b.proofs.CodedOctets.{length-coded, replaced-front}
use Rattle.lane_b.proofs.SentWords.{data_octets-more}
use Rattle.scenario.specs.Plans.{Plan}
use Rattle.link_model.specs.Edges.{is_reset}
use Rattle.link_model.specs.Orders.{after_boundary}
use Rattle.link_model.specs.Sessions.{at}
use Rattle.link_laws.specs.Laws.{IsPlanRead}
use Rattle.link_laws.proofs.SentChars.{AreSmall, char_sent, handed-next, handed_at, handed_by, length-octet_bits, octet-small, small-none, small-push}
use Rattle.link_laws.proofs.DataBack.{replaced-at}

-- ---- octets that are coded before later ones

octets_of-append : (m n : ℕ) (xs ys : List Bool) → length xs ≡ 8 * m
    → octets_of (m + n) (xs ++ ys) ≡ octets_of m xs ++ octets_of n ys
unfolding octets_of
octets_of-append zero n [] ys e = let z : 0 + n ≡ n = omega arith in ap (λ k. octets_of k ys) z
octets_of-append zero n (x ∷ xs) ys e = absurd (omega arith)
octets_of-append (suc m) n xs ys e =
    let z : suc m + n ≡ suc (m + n) = omega arith in
    let rest = length-drop 8 xs in
    ap (λ k. octets_of k (xs ++ ys)) z
    ∙ ap₂ (λ (us vs : List Bool). value us ∷ octets_of (m + n) vs)
    (take-append-le 8 xs ys (omega arith)) (drop-append-le 8 xs ys (omega arith))
    ∙ ap {B = List ℕ} (λ l. value (take 8 xs) ∷ l)
    (octets_of-append m n (drop 8 xs) ys (omega arith))

scrambled-front : (xs ys : List ℕ)
    → (zs : List ℕ) × (scrambled_octets (xs ++ ys) ≡ scrambled_octets xs ++ zs)
scrambled-front xs ys =
    let a : List Bool = flat_map (bits 8) xs in
    let b : List Bool = flat_map (bits 8) ys in
    let later : List Bool = scrambled 14 15 (reverse (scrambled15 a) ++ start15) b in
    let long : length (scrambled15 a) ≡ 8 * length xs = (keep_length 14 15 start15 a).0
    ∙ length-octet_bits xs in (
      octets_of (length ys) later,
      ap₂ (λ (n : ℕ) (bs : List Bool). octets_of n (scrambled15 bs)) (length-append xs ys)
          (flat_map-append (bits 8) xs ys)
          ∙ ap (octets_of (length xs + length ys)) (goes_in_parts 14 15 start15 a b).0
          ∙ octets_of-append (length xs) (length ys) (scrambled15 a) later long,
    )

coded-front : (p : Params) (xs ys : List ℕ)
    → (zs : List ℕ) × (coded_octets p (xs ++ ys) ≡ coded_octets p xs ++ zs)
coded-front p xs ys = elim (cases_Bool p.scr) [
  | inl scr ↦
      let k = scrambled-front xs ys in (
        k.0,
        cond-true p.scr (scrambled_octets (xs ++ ys)) (xs ++ ys) scr ∙ k.1
            ∙ ap (λ l. l ++ k.0) (sym (cond-true p.scr (scrambled_octets xs) xs scr)),
      )
  | inr plain ↦ (
    ys,
    cond-false p.scr (scrambled_octets (xs ++ ys)) (xs ++ ys) plain
        ∙ ap (λ l. l ++ ys) (sym (cond-false p.scr (scrambled_octets xs) xs plain)),
  )
]

due-front : (p : Params) (octets ys : List ℕ) (chars : List Char) (x : ℕ) → x < length octets
    → char_due p (octets ++ ys) chars x ≡ char_due p octets chars x
due-front p octets ys chars x lt =
    let here = get_or-append octets ys 0 x lt in
    let before = get_or-append octets ys 0 (x - p.f) (omega arith) in
    simp (here, before)

-- the character of the last octet of some is its place's among the characters of more
data-char-front : (p : Params) (xs ys : List ℕ) (x : ℕ) → length xs ≡ suc x
    → data_char p xs
    ≡ get_or (replaced p (coded_octets p (xs ++ ys)) (length (coded_octets p (xs ++ ys)))) x
    (Data 0)
unfolding data_char
data-char-front p xs ys x long =
    let e : length xs - 1 ≡ x = omega arith in
    let front = coded-front p xs ys in
    let own : List ℕ = coded_octets p xs in
    let all : List ℕ = coded_octets p (xs ++ ys) in
    let own_long = length-coded p xs in
    let all_long = length-coded p (xs ++ ys) in
    let both = length-append xs ys in
    ap (λ n. char_due p own (replaced p own n) n) e
    ∙ ap (λ cs. char_due p own cs x) (sym (replaced-front x p own front.0 (omega arith)))
    ∙ sym (due-front p own front.0 (replaced p (own ++ front.0) x) x (omega arith))
    ∙ sym (ap (λ os. char_due p os (replaced p os x) x) front.1)
    ∙ sym (replaced-at (length all) p all x (omega arith))

module _ (s : Plan) (lane : ℕ) (read : IsPlanRead s) (mode : s.link.params.mode ≡ B)
    (below : lane < s.link.params.l)
    (g t : ℕ) (some : 0 < period s.link.params) (quiet : (x : ℕ) → g < x → x ≤ t
    → is_reset s Tx x ≡ false)
    (orders : (j : ℕ) → g + j ≤ t → (at lanes_b s (g + j)).order ≡ after_boundary s.link.params j)
  where
    abbrev pub begin_data : ℕ
    begin_data = g + 4 * period s.link.params

    abbrev pub octet_at : ℕ → ℕ
    octet_at n = slice_index (at lanes_b s n).handed lane

    -- the octets of the first n ticks of the data
    unfoldable pub octets_to : ℕ → List ℕ
    octets_to zero = []
    octets_to (suc n) = octets_to n ++ octet_at (begin_data + n) ∷ []

    pub length-octets_to : (n : ℕ) → length (octets_to n) ≡ n
    unfolding octets_to
    length-octets_to zero = refl
    length-octets_to (suc n) = let l =
        length-append (octets_to n) (octet_at (begin_data + n) ∷ []) in
        let h = length-octets_to n in omega arith

    pub octets-small : (n : ℕ) → AreSmall (octets_to n)
    unfolding octets_to
    octets-small zero = small-none
    octets-small (suc n) = small-push (octets_to n) (octet_at (begin_data + n)) (octets-small n)
        (octet-small s lane read mode below (begin_data + n))

    pub octet-to : (n i : ℕ) → i < n → get_or (octets_to n) i 0 ≡ octet_at (begin_data + i)
    unfolding octets_to
    octet-to zero i lt = absurd (omega arith)
    octet-to (suc n) i lt =
        let long = length-octets_to n in
        elim (cases_lt i n) [
          | inl early ↦ get_or_append_left (octets_to n) (octet_at (begin_data + n) ∷ []) 0 i
              (omega arith) ∙ octet-to n i early
          | inr last ↦ let same : n ≡ i = omega arith in
              get_or_push (octets_to n) (octet_at (begin_data + n)) 0 i (omega arith)
              ∙ ap (λ k. octet_at (begin_data + k)) same
        ]

    octets-longer : (n k : ℕ) → (more : List ℕ) × (octets_to (n + k) ≡ octets_to n ++ more)
    unfolding octets_to
    octets-longer n zero = let e : n + 0 ≡ n = omega arith in
        ([], ap octets_to e ∙ sym (append-nil (octets_to n)))
    octets-longer n (suc k) =
        let e : n + suc k ≡ suc (n + k) = omega arith in
        let m = octets-longer n k in
        let o : ℕ = octet_at (begin_data + (n + k)) in (
          m.0 ++ o ∷ [],
          ap octets_to e ∙ ap (λ os. os ++ o ∷ []) m.1
              ∙ append_assoc (octets_to n) m.0 (o ∷ []),
        )

    order-ilas : (j : ℕ) → g + j ≤ t → j < 4 * period s.link.params
        → (at lanes_b s (g + j)).order ≡ Ilas j
    order-ilas j upto inside = orders j upto ∙ cond-true (nat_lt j (4 * period s.link.params))
        (Ilas j) (DataOrder (j % period s.link.params) (j == 4 * period s.link.params))
        (lt-ltb j (4 * period s.link.params) inside)

    order-data : (j : ℕ) → g + j ≤ t → 4 * period s.link.params ≤ j
        → (at lanes_b s (g + j)).order ≡ DataOrder (j % period s.link.params)
        (j == 4 * period s.link.params)
    order-data j upto past = orders j upto ∙ cond-false (nat_lt j (4 * period s.link.params))
        (Ilas j)
        (DataOrder (j % period s.link.params) (j == 4 * period s.link.params))
        (le-ltb j (4 * period s.link.params) past)

    -- the same by the number of the data's tick
    data-order : (i : ℕ) → begin_data + i ≤ t
        → (at lanes_b s (begin_data + i)).order
        ≡ DataOrder ((4 * period s.link.params + i) % period s.link.params) (i == 0)
    data-order i upto =
        let j : ℕ = 4 * period s.link.params + i in
        let e : begin_data + i ≡ g + j = omega arith in
        let first : (j == 4 * period s.link.params) ≡ (i == 0) = elim (cases_Bool (i == 0)) [
          | inl z ↦ let is = eqb-true i 0 z in eq-eqb j (4 * period s.link.params) (omega arith)
              ∙ sym z
          | inr z ↦ let apart = eqb-false i 0 z in
              ne_eqb j (4 * period s.link.params) (λ k. apart (omega arith)) ∙ sym z
        ] in
        ap (λ (n : ℕ). (at lanes_b s n).order) e ∙ order-data j (omega arith) (omega arith)
        ∙ ap (DataOrder (j % period s.link.params)) first

    handed-to : ℕ → List Handed
    handed-to n = handed_by s lane read mode below n ++ handed_at s lane read mode below n ∷ []

    -- the data octets of tick number i of the data
    data-octets : (i : ℕ) → begin_data + i ≤ t
        → data_octets [] (handed-to (begin_data + i)) ≡ octets_to (suc i)
    unfolding octets_to handed-to
    data-octets zero upto =
        let n : ℕ = begin_data + 0 in
        let before : List ℕ = data_octets [] (handed_by s lane read mode below n) in
        data_octets-more (handed_by s lane read mode below n) (handed_at s lane read mode below n)
        []
        ∙ ap (λ o. going_on before (record { order = o; octets = octet_at n })) (data-order 0 upto)
    data-octets (suc i) upto =
        let n : ℕ = begin_data + i in
        let e : begin_data + suc i ≡ suc n = omega arith in
        let later : (at lanes_b s (suc n)).order
        ≡ DataOrder ((4 * period s.link.params + suc i) % period s.link.params) (suc i == 0) =
        sym (ap (λ (m : ℕ). (at lanes_b s m).order) e) ∙ data-order (suc i) upto in
        let no_first : (suc i == 0) ≡ false = ne_eqb (suc i) 0 (λ z. omega arith) in
        let before : List ℕ = data_octets [] (handed_by s lane read mode below (suc n)) in
        let all : before ≡ octets_to (suc i) =
        ap (data_octets [])
        (handed-next s lane read mode below n (quiet (suc n) (omega arith) (omega arith)))
        ∙ data-octets i (omega arith) in
        ap (λ m. data_octets [] (handed-to m)) e
        ∙ data_octets-more (handed_by s lane read mode below (suc n))
        (handed_at s lane read mode below (suc n)) []
        ∙ ap (λ o. going_on before (record { order = o; octets = octet_at (suc n) })) later
        ∙ cond-false (suc i == 0) (octet_at (suc n) ∷ []) (before ++ octet_at (suc n) ∷ []) no_first
        ∙ ap (λ os. os ++ octet_at (suc n) ∷ []) all
        ∙ sym (ap (λ m. octets_to (suc i) ++ octet_at m ∷ []) e)

    -- the characters
    pub ilas-sent : (j : ℕ) → g + j ≤ t → j < 4 * period s.link.params
        → char_sent s lane read mode below (g + j) ≡ ilas_char s.link.params lane j
    ilas-sent j upto inside =
        ap (char_of s.link.params lane (handed_by s lane read mode below (g + j)
        ++ handed_at s lane read mode below (g + j) ∷ [])) (order-ilas j upto inside)

    pub data-sent : (n i : ℕ) → i < n → begin_data + i ≤ t
        → char_sent s lane read mode below (begin_data + i)
        ≡ get_or (replaced s.link.params (coded_octets s.link.params (octets_to n))
        (length (coded_octets s.link.params (octets_to n)))) i (Data 0)
    unfolding handed-to
    data-sent n i lt upto =
        let p = s.link.params in
        let m : ℕ = begin_data + i in
        let k = octets-longer (suc i) (n - suc i) in
        let e : suc i + (n - suc i) ≡ n = omega arith in
        ap (char_of p lane (handed_by s lane read mode below m ++ handed_at s lane read mode below m
        ∷ [])) (data-order i upto)
        ∙ ap (data_char p) (data-octets i upto)
        ∙ data-char-front p (octets_to (suc i)) k.0 i (length-octets_to (suc i))
        ∙ ap (λ os. get_or (replaced p (coded_octets p os) (length (coded_octets p os))) i (Data 0))
        (sym k.1 ∙ ap octets_to e)

    pub order-of-ilas : (j : ℕ) → g + j ≤ t → j < 4 * period s.link.params
        → (at lanes_b s (g + j)).order ≡ Ilas j
    order-of-ilas j upto inside = order-ilas j upto inside

    pub order-of-data : (i : ℕ) → begin_data + i ≤ t
        → (at lanes_b s (begin_data + i)).order
        ≡ DataOrder ((4 * period s.link.params + i) % period s.link.params) (i == 0)
    order-of-data i upto = data-order i upto
