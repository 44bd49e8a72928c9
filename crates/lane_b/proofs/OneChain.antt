-- The words that are sent: ten bits each, and one chain of spellings.
use Rattle.std.proofs.Common.{◌≡◌, ℕ, zero, suc, ◌+◌, ◌-◌, ◌/◌, ◌%◌, ◌==◌, ◌<◌, ◌≤◌, nat_le, ◌&&◌, Bool, true, false, List, [], ◌∷◌, ◌++◌, length, map, take, drop, get_or, Option, Some, None, unwrap_or, refl, sym, ◌∙◌, ap, ap₂, arith, inl, inr, length-take}
use Rattle.std.specs.Prelude.{IsSome}
use Rattle.std.specs.List.{All, flat_map}
use Rattle.std.proofs.lemmas.Bool.{cases_Bool}
use Rattle.std.proofs.lemmas.List.{append-nil, append_assoc, length-map, map-append, take_at}
use Rattle.std.proofs.lemmas.List.Elements.{All-cons, All-head, All-nil, All-tail}
use Rattle.jesd_base.specs.Bits.{bits, value}
use Rattle.jesd_base.proofs.BitLemmas.{value_below}
use Rattle.link_params.specs.declared.fields.Params.{Params}
use Rattle.link_params.specs.declared.orders.TxOrder.{TxOrder}
use Rattle.link_params.specs.declared.orders.TxOrder.TheVariants.{Comma, Ilas, Data as DataOrder, Silent, Block}
use Rattle.link_params.specs.Config.{config_octets, one_if}
use Rattle.link_params.specs.Lanes.{Handed}
use Rattle.link_params.specs.Numbers.{period}
use Rattle.link_params.proofs.ConfigFacts.{config_octets-is}
use Rattle.link_params.proofs.LawFacts.{HaveRoom, rooms}
use Rattle.code_8b10b.specs.declared.character.Rd.{Rd}
use Rattle.code_8b10b.specs.declared.character.Rd.TheVariants.{Minus}
use Rattle.code_8b10b.specs.declared.character.Char.{Char}
use Rattle.code_8b10b.specs.declared.character.Char.TheVariants.{Data, Control}
use Rattle.code_8b10b.specs.Code.{Chained, after, spelling}
use Rattle.code_8b10b.proofs.Windows.{length-bits}
use Rattle.char_replace.specs.kept.Ends.{IsSerial}
use Rattle.char_replace.specs.Replacement.{alignment_a}
use Rattle.lane_scramble.specs.Scrambling.{scrambled15}
use Rattle.ilas.specs.Sequence.{ilas_char}
use Rattle.lane_b.specs.laws.LaneLaws.{AreOctets, SpellsOneChain, TenBitsATick, WordsStay}
use Rattle.lane_b.specs.kept.Senders.{HasSpellings, rd_after}
use Rattle.lane_b.specs.Sent.{char_of, chars_after, coded_octets, data_char, data_octets, going_on, is_first_data, octets_of, replaced, sent_words, spelled}
use Rattle.lane_b.proofs.SentWords.{data_octets-more}
use Rattle.lane_b.proofs.Spelled.{begin-spelled, comma-spelled, configuration-spelled, data-spelled, due-spelled, end-spelled, one_of_five}

-- ---- one word of ten bits a tick

length-spelled : (cs : List Char) (rd : Rd) → length (spelled rd cs) ≡ length cs
unfolding spelled
length-spelled [] rd = refl
length-spelled (c ∷ cs) rd = ap suc (length-spelled cs (after rd (unwrap_or (spelling rd c) 0)))

length-chars_after : (handed : List Handed) (p : Params) (lane : ℕ) (before : List Handed)
    → length (chars_after p lane before handed) ≡ length handed
unfolding chars_after
length-chars_after [] p lane before = refl
length-chars_after (h ∷ hs) p lane before = ap suc (length-chars_after hs p lane (before ++ h ∷ []))

all-ten : (ws : List ℕ) → All (λ (word : List Bool). length word ≡ 10) (map (bits 10) ws)
all-ten [] = All-nil (λ (word : List Bool). length word ≡ 10)
all-ten (w ∷ ws) = All-cons (λ (word : List Bool). length word ≡ 10) (bits 10 w) (map (bits 10) ws)
    (length-bits 10 w) (all-ten ws)

pub ten_bits-a_tick : TenBitsATick
unfolding sent_words
ten_bits-a_tick p lane handed = (
  length-map (sent_words p lane handed) (bits 10)
      ∙ length-spelled (chars_after p lane [] handed) Minus ∙ length-chars_after handed p lane [],
  all-ten (sent_words p lane handed),
)

-- ---- words stay

chars_after-append : (hs ks : List Handed) (p : Params) (lane : ℕ) (before : List Handed)
    → chars_after p lane before (hs ++ ks) ≡ chars_after p lane before hs
    ++ chars_after p lane (before ++ hs) ks
unfolding chars_after
chars_after-append [] ks p lane before = ap (λ (b : List Handed). chars_after p lane b ks)
    (sym (append-nil before))
chars_after-append (h ∷ hs) ks p lane before =
    let c : Char = char_of p lane (before ++ h ∷ []) h.order in
    let front : List Char = chars_after p lane (before ++ h ∷ []) hs in
    ap {B = List Char} (λ cs. c ∷ cs) (chars_after-append hs ks p lane (before ++ h ∷ [])
    ∙ ap (λ (b : List Handed). front ++ chars_after p lane b ks) (append_assoc before (h ∷ []) hs))

spelled-append : (cs ds : List Char) (rd : Rd) → spelled rd (cs ++ ds) ≡ spelled rd cs
    ++ spelled (rd_after rd (spelled rd cs)) ds
unfolding spelled rd_after
spelled-append [] ds rd = refl
spelled-append (c ∷ cs) ds rd =
    let w : ℕ = unwrap_or (spelling rd c) 0 in
    ap {B = List ℕ} (λ ws. w ∷ ws) (spelled-append cs ds (after rd w))

pub words-stay : WordsStay
unfolding sent_words
words-stay p lane handed later =
    let front : List ℕ = spelled Minus (chars_after p lane [] handed) in
    let back : List ℕ = spelled (rd_after Minus front) (chars_after p lane handed later) in
    let all : spelled Minus (chars_after p lane [] (handed ++ later)) ≡ front ++ back =
    ap (spelled Minus) (chars_after-append handed later p lane [])
    ∙ spelled-append (chars_after p lane [] handed) (chars_after p lane handed later) Minus in
    let long : length (map (bits 10) front) ≡ length handed = (ten_bits-a_tick p lane handed).0 in
    ap (λ (ws : List ℕ). take (length handed) (map (bits 10) ws)) all
    ∙ ap (take (length handed)) (map-append (bits 10) front back)
    ∙ take_at (map (bits 10) front) (map (bits 10) back) (length handed) long

-- ---- a chain

-- each character has spellings
abbrev pub AreSpelled : List Char → Type 0
AreSpelled [] = Unit {0}
AreSpelled (c ∷ cs) = HasSpellings c × AreSpelled cs

some-of : (o : Option ℕ) → IsSome o → o ≡ Some (unwrap_or o 0)
some-of None e = cc
some-of (Some w) e = refl

chains : (cs : List Char) (rd : Rd) → AreSpelled cs → Chained rd cs (spelled rd cs)
unfolding spelled
chains [] rd h = tt
chains (c ∷ cs) rd h =
    (some-of (spelling rd c) (h.0.at rd), chains cs (after rd (unwrap_or (spelling rd c) 0)) h.1)

only-chain : (cs : List Char) (rd : Rd) (ws : List ℕ) → Chained rd cs ws → ws ≡ spelled rd cs
unfolding spelled
only-chain [] rd [] h = refl
only-chain [] rd (w ∷ ws) h = absurd h
only-chain (c ∷ cs) rd [] h = absurd h
only-chain (c ∷ cs) rd (w ∷ ws) h =
    let first : w ≡ unwrap_or (spelling rd c) 0 = sym (ap (λ (o : Option ℕ). unwrap_or o 0) h.0) in
    let later : ws ≡ spelled (after rd w) cs = only-chain cs (after rd w) ws h.1 in
    ap₂ {C = List ℕ} (λ v vs. v ∷ vs) first (later ∙ ap (λ v. spelled (after rd v) cs) first)

-- ---- octets

abbrev pub AreSmall : List ℕ → Type 0
AreSmall [] = Unit {0}
AreSmall (o ∷ os) = (o < 256) × AreSmall os

small-at : (os : List ℕ) (i : ℕ) → AreSmall os → get_or os i 0 < 256
small-at [] i h = omega arith
small-at (o ∷ os) zero h = h.0
small-at (o ∷ os) (suc i) h = small-at os i h.1

small-push : (os : List ℕ) (o : ℕ) → AreSmall os → o < 256 → AreSmall (os ++ o ∷ [])
small-push [] o h lt = (lt, tt)
small-push (x ∷ os) o h lt = (h.0, small-push os o h.1 lt)

small-going : (octets : List ℕ) (h : Handed) → AreSmall octets → h.octets < 256
    → AreSmall (going_on octets h)
small-going octets h small here = elim (cases_Bool (is_first_data h.order)) [
  | inl first ↦ rw first (here, tt)
  | inr later ↦ rw later (small-push octets h.octets small here)
]

small-eight : (ds : List Bool) → length ds ≤ 8 → value ds < 256
small-eight [] le = omega arith
small-eight (a ∷ []) le = let h = value_below (a ∷ []) in omega arith
small-eight (a ∷ b ∷ []) le = let h = value_below (a ∷ b ∷ []) in omega arith
small-eight (a ∷ b ∷ c ∷ []) le = let h = value_below (a ∷ b ∷ c ∷ []) in omega arith
small-eight (a ∷ b ∷ c ∷ d ∷ []) le = let h = value_below (a ∷ b ∷ c ∷ d ∷ []) in omega arith
small-eight (a ∷ b ∷ c ∷ d ∷ e ∷ []) le = let h = value_below (a ∷ b ∷ c ∷ d ∷ e ∷ []) in
    omega arith
small-eight (a ∷ b ∷ c ∷ d ∷ e ∷ f ∷ []) le = let h = value_below (a ∷ b ∷ c ∷ d ∷ e ∷ f ∷ []) in
    omega arith
small-eight (a ∷ b ∷ c ∷ d ∷ e ∷ f ∷ g ∷ []) le = let h =
    value_below (a ∷ b ∷ c ∷ d ∷ e ∷ f ∷ g ∷ []) in omega arith
small-eight (a ∷ b ∷ c ∷ d ∷ e ∷ f ∷ g ∷ i ∷ []) le = let h =
    value_below (a ∷ b ∷ c ∷ d ∷ e ∷ f ∷ g ∷ i ∷ []) in omega arith
small-eight (a ∷ b ∷ c ∷ d ∷ e ∷ f ∷ g ∷ i ∷ j ∷ ds) le = absurd (omega arith)

small-octets_of : (n : ℕ) (bs : List Bool) → AreSmall (octets_of n bs)
unfolding octets_of
small-octets_of zero bs = tt
small-octets_of (suc n) bs =
    let l = length-take 8 bs in
    (small-eight (take 8 bs) (omega arith), small-octets_of n (drop 8 bs))

small-coded : (p : Params) (octets : List ℕ) → AreSmall octets → AreSmall (coded_octets p octets)
small-coded p octets h = elim (cases_Bool p.scr) [
  | inl scr ↦ rw scr (small-octets_of (length octets) (scrambled15 (flat_map (bits 8) octets)))
  | inr plain ↦ rw plain h
]

one-small : (b : Bool) → one_if b ≤ 1
one-small true = omega arith
one-small false = omega arith

small-config : (p : Params) (lane : ℕ) → IsSerial p → lane < p.l → AreSmall (config_octets p lane)
small-config p lane serial lt =
    let mode = serial.mode in
    let r : HaveRoom p = rooms p serial.legal (rw mode refl) in
    let scr : ℕ = one_if p.scr in
    let hd : ℕ = one_if p.hd in
    let a : scr ≤ 1 = one-small p.scr in
    let b : hd ≤ 1 = one-small p.hd in
    let l = r.l in let f = r.f in let k = r.k in let m = r.m in let cs = r.cs in let n = r.n in
    let np = r.np in let s = r.s in
    rw (← config_octets-is p lane scr hd refl refl) (
      omega arith,
      (
        omega arith,
        (
          omega arith,
          (
            omega arith,
            (
              omega arith,
              (
                omega arith,
                (
                  omega arith,
                  (
                    omega arith,
                    (
                      omega arith,
                      (omega arith, (omega arith, (omega arith, (omega arith, (omega arith, tt))))),
                    ),
                  ),
                ),
              ),
            ),
          ),
        ),
      ),
    )

-- ---- the characters of a lane

spelled-ilas : (p : Params) (lane x : ℕ) → IsSerial p → lane < p.l
    → HasSpellings (ilas_char p lane x)
unfolding ilas_char
spelled-ilas p lane x serial lt =
    let n : ℕ = period p in
    let q : ℕ = x / n in
    let j : ℕ = x % n in
    let config : ℕ = get_or (config_octets p lane) (j - 2) 0 in
    one_of_five (j == 0) (j + 1 == n) ((q == 1) && (j == 1)) ((q == 1) && nat_le j 15)
    (Control 0x1C) alignment_a (Control 0x9C) (Data config) (Data (x % 256))
    begin-spelled end-spelled configuration-spelled
    (λ is. data-spelled config
    (small-at (config_octets p lane) (j - 2) (small-config p lane serial lt)))
    (λ is. data-spelled (x % 256) (omega arith))

spelled-data : (p : Params) (octets : List ℕ) → AreSmall octets → HasSpellings (data_char p octets)
unfolding data_char
spelled-data p octets h =
    let n : ℕ = length octets - 1 in
    let coded : List ℕ = coded_octets p octets in
    due-spelled p coded (replaced p coded n) n (small-at coded n (small-coded p octets h))

spelled-char : (p : Params) (lane : ℕ) (handed : List Handed) (order : TxOrder) → IsSerial p
    → lane < p.l → AreSmall (data_octets [] handed)
    → HasSpellings (char_of p lane handed order)
spelled-char p lane handed Comma serial lt h = comma-spelled
spelled-char p lane handed (Ilas x) serial lt h = spelled-ilas p lane x serial lt
spelled-char p lane handed (DataOrder x first) serial lt h =
    spelled-data p (data_octets [] handed) h
spelled-char p lane handed Silent serial lt h = comma-spelled
spelled-char p lane handed (Block x first) serial lt h = comma-spelled

spelled-after : (handed before : List Handed) (p : Params) (lane : ℕ) → IsSerial p → lane < p.l
    → AreSmall (data_octets [] before) → AreOctets handed
    → AreSpelled (chars_after p lane before handed)
unfolding chars_after
spelled-after [] before p lane serial lt small all = tt
spelled-after (h ∷ hs) before p lane serial lt small all =
    let P : Handed → Type 0 = λ x. x.octets < 256 in
    let here : h.octets < 256 = All-head P h hs all in
    let more = data_octets-more before h [] in
    let next : AreSmall (data_octets [] (before ++ h ∷ [])) =
    rw more (small-going (data_octets [] before) h small here) in (
      spelled-char p lane (before ++ h ∷ []) h.order serial lt next,
      spelled-after hs (before ++ h ∷ []) p lane serial lt next (All-tail P h hs all),
    )

small-nothing : AreSmall (data_octets [] [])
unfolding data_octets
small-nothing = tt

pub spells-one_chain : SpellsOneChain
unfolding sent_words
spells-one_chain p lane handed serial lt all =
    let cs : List Char = chars_after p lane [] handed in (
      chains cs Minus (spelled-after handed [] p lane serial lt small-nothing all),
      λ words h. only-chain cs Minus words h,
    )
