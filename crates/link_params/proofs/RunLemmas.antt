-- One tick more of a run.
use Rattle.std.proofs.Common.{◌≡◌, ◌≢◌, ℕ, suc, ◌+◌, ◌%◌, ◌<◌, ◌≤◌, Bool, false, if◌then◌else◌, List, [], ◌∷◌, ◌++◌, length, get_or, set, take, refl, sym, ◌∙◌, ap, ap₂, subst, inl, inr, arith, append_assoc}
use Rattle.std.proofs.lemmas.Bool.{cases_lt}
use Rattle.std.proofs.lemmas.List.{append-nil, get_or-set_same, get_or-set_other, take-set-le, take_more_set}
use Rattle.std.proofs.lemmas.Nat.{mod_below}
use Rattle.std.proofs.Math.Nat.{mod-add-mod, mod-eq_of_lt}
use Rattle.jesd_base.specs.Bits.{bits}
use Rattle.link_params.specs.declared.fields.Mode.{Mode}
use Rattle.link_params.specs.declared.fields.Mode.TheVariants.{B, CCrc, CFec}
use Rattle.link_params.specs.declared.fields.Params.{Params}
use Rattle.link_params.specs.declared.orders.RxOrder.{RxOrder}
use Rattle.link_params.specs.declared.orders.TxOrder.{TxOrder}
use Rattle.link_params.specs.declared.orders.TxOrder.TheVariants.{Data, Block}
use Rattle.link_params.specs.Laws.{is_b}
use Rattle.link_params.specs.Numbers.{period}
use Rattle.link_params.specs.Lanes.{Handed, Taken}
use Rattle.link_params.specs.Runs.{data_order, data_ticks, later, word_ticks}

-- ---- data

pub data_order-b : (p : Params) (x : ℕ) → p.mode ≡ B → Data x false ≡ data_order p x
data_order-b p x is =
    ap (λ (b : Bool). if b then Data x false else Block x false) (sym (ap is_b is))

not_b : (m : Mode) → m ≢ B → is_b m ≡ false
not_b B apart = absurd (apart refl)
not_b CCrc apart = refl
not_b CFec apart = refl

pub data_order-c : (p : Params) (x : ℕ) → p.mode ≢ B → Block x false ≡ data_order p x
data_order-c p x apart =
    ap (λ (b : Bool). if b then Data x false else Block x false) (sym (not_b p.mode apart))

one_more : (n : ℕ) → suc n ≡ n + 1
one_more n = omega arith

-- one tick of data
abbrev pub data_tick : TxOrder → ℕ → Handed
data_tick order octets = record { order = order; octets = octets }

pub data_ticks-more : (handed : List Handed) (p : Params) (place : ℕ) (octets : List ℕ) (n : ℕ)
    (order : TxOrder) → order ≡ data_order p ((place + n) % period p)
    → (handed ++ data_ticks p place octets n) ++ data_tick order (get_or octets n 0) ∷ []
    ≡ handed ++ data_ticks p place octets (n + 1)
unfolding data_ticks
data_ticks-more handed p place octets n order at =
    let front : List Handed = data_ticks p place octets n in
    append_assoc handed front (data_tick order (get_or octets n 0) ∷ [])
    ∙ ap {B = List Handed} (λ (o : TxOrder).
    handed ++ (front ++ data_tick o (get_or octets n 0) ∷ [])) at
    ∙ ap (λ (k : ℕ). handed ++ data_ticks p place octets k) (one_more n)

pub data_ticks-none : (handed : List Handed) (p : Params) (place : ℕ) (octets : List ℕ)
    → handed ≡ handed ++ data_ticks p place octets 0
unfolding data_ticks
data_ticks-none handed p place octets = sym (append-nil handed)

-- what was sent in the first i ticks of a run is told by the first i of these words
abbrev pub SendsSo : {X : Type 0} → (List Handed → List X) → (List ℕ → List X) → List Handed
    → Params → ℕ → List ℕ → List ℕ → ℕ → Type 0
SendsSo sends items handed p place octets words i = (n : ℕ) → n ≤ i
    → sends (handed ++ data_ticks p place octets n) ≡ sends handed ++ items (take n words)

pub sends-none : {X : Type 0} (sends : List Handed → List X) (items : List ℕ → List X)
    (handed : List Handed) (p : Params) (place : ℕ) (octets words : List ℕ) → items [] ≡ []
    → SendsSo sends items handed p place octets words 0
sends-none sends items handed p place octets words empty n none =
    let z : n ≡ 0 = omega arith in
    ap (λ (k : ℕ). sends (handed ++ data_ticks p place octets k)) z
    ∙ ap sends (sym (data_ticks-none handed p place octets)) ∙ sym (append-nil (sends handed))
    ∙ ap (λ xs. sends handed ++ xs) (sym empty)
    ∙ ap (λ (k : ℕ). sends handed ++ items (take k words)) (sym z)

pub sends-more : {X : Type 0} (sends : List Handed → List X) (items : List ℕ → List X)
    (handed : List Handed) (p : Params) (place : ℕ) (octets words : List ℕ) (i w : ℕ) (x : X)
    (order : TxOrder) → order ≡ data_order p ((place + i) % period p) → i < length words
    → SendsSo sends items handed p place octets words i
    → items (take i words ++ w ∷ []) ≡ items (take i words) ++ x ∷ []
    → sends ((handed ++ data_ticks p place octets i) ++ data_tick order (get_or octets i 0) ∷ [])
    ≡ sends (handed ++ data_ticks p place octets i) ++ x ∷ []
    → SendsSo sends items handed p place octets (set words i w) (i + 1)
sends-more sends items handed p place octets words i w x order at within so_far one here m upto =
    elim (cases_lt i m) [
      | inr earlier ↦ so_far m earlier
          ∙ ap (λ (ws : List ℕ). sends handed ++ items ws) (sym (take-set-le m words i w earlier))
      | inl last ↦
          let top : m ≡ i + 1 = omega arith in
          let least : i ≤ i = omega arith in
          ap (λ (k : ℕ). sends (handed ++ data_ticks p place octets k)) top
          ∙ ap sends (sym (data_ticks-more handed p place octets i order at)) ∙ here
          ∙ ap (λ xs. xs ++ x ∷ []) (so_far i least)
          ∙ append_assoc (sends handed) (items (take i words)) (x ∷ [])
          ∙ ap (λ xs. sends handed ++ xs)
          (sym one ∙ ap items (sym (take_more_set words i w within)))
          ∙ ap (λ (k : ℕ). sends handed ++ items (take k (set words i w))) (sym top)
    ]

-- ---- words

-- one tick of a receiver lane
abbrev pub word_tick : RxOrder → List Bool → Taken
word_tick order word = record { order = order; word = word }

pub word_ticks-more : (taken : List Taken) (width : ℕ) (order : RxOrder) (round : ℕ)
    (words : List ℕ) (n : ℕ) (now : RxOrder) → now ≡ later order round n
    → (taken ++ word_ticks width order round words n)
    ++ word_tick now (bits width (get_or words n 0)) ∷ []
    ≡ taken ++ word_ticks width order round words (n + 1)
unfolding word_ticks
word_ticks-more taken width order round words n now at =
    let front : List Taken = word_ticks width order round words n in
    append_assoc taken front (word_tick now (bits width (get_or words n 0)) ∷ [])
    ∙ ap {B = List Taken} (λ (o : RxOrder).
    taken ++ (front ++ word_tick o (bits width (get_or words n 0)) ∷ [])) at
    ∙ ap (λ (k : ℕ). taken ++ word_ticks width order round words k) (one_more n)

pub word_ticks-none : (taken : List Taken) (width : ℕ) (order : RxOrder) (round : ℕ)
    (words : List ℕ) → taken ≡ taken ++ word_ticks width order round words 0
unfolding word_ticks
word_ticks-none taken width order round words = sym (append-nil taken)

-- ---- a number that counts up in a period

pub round-start : (x n : ℕ) → x < n → x ≡ (x + 0) % n
round-start x n low =
    let z : x + 0 ≡ x = omega arith in
    sym (ap (λ (k : ℕ). k % n) z ∙ mod-eq_of_lt low)

pub round-more : (start i x n : ℕ) → x ≡ (start + i) % n → suc x % n ≡ (start + (i + 1)) % n
round-more start i x n at =
    let one : suc x ≡ (start + i) % n + 1 = omega arith in
    let all : start + i + 1 ≡ start + (i + 1) = omega arith in
    ap (λ (k : ℕ). k % n) one ∙ mod-add-mod (start + i) n 1 ∙ ap (λ (k : ℕ). k % n) all

-- the first order of a run
pub later-start : (order : RxOrder) (round : ℕ) → order.hunt ≡ false → order.offset < round
    → order ≡ later order round 0
later-start order round hunt low =
    ap₂ {C = RxOrder} (λ (h : Bool) (x : ℕ). record { hunt = h; armed = order.armed; offset = x })
    hunt (round-start order.offset round low)

-- and the next one
pub later-more : (order : RxOrder) (round i : ℕ) (now : RxOrder) (next : ℕ)
    → now ≡ later order round i → now.offset < round → next ≡ suc now.offset % round
    → (record { hunt = now.hunt; armed = now.armed; offset = next } ≡ later order round (i + 1))
    × (next < round)
later-more order round i now next is low at =
    let offset : now.offset ≡ (order.offset + i) % round = ap (λ (o : RxOrder). o.offset) is in
    let below = mod_below (suc now.offset) round (omega arith) in (
      ap₂ {C = RxOrder} (λ (o : RxOrder) (x : ℕ).
          record { hunt = o.hunt; armed = o.armed; offset = x })
          is (at ∙ round-more order.offset i now.offset round offset),
      omega arith,
    )

-- ---- a list of words that is filled from the front

-- what holds of each word before place i holds of each up to it, where it holds of the word that is
-- put there
pub each-more : (P : ℕ → ℕ → Type 0) (ws : List ℕ) (i w : ℕ)
    → ((k : ℕ) → k < i → P k (get_or ws k 0)) → i < length ws → P i w
    → (k : ℕ) → k < i + 1 → P k (get_or (set ws i w) k 0)
each-more P ws i w before within here k below = elim (cases_lt k i) [
  | inl less ↦ subst (P k) (sym (get_or-set_other ws i k w 0 (λ e. omega arith))) (before k less)
  | inr more ↦
      let e : i ≡ k = omega arith in
      subst (λ (j : ℕ). P j (get_or (set ws i w) j 0)) e
      (subst (P i) (sym (get_or-set_same ws i w 0 within)) here)
]
