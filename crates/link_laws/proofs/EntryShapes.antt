-- Which entries of a lane are places of the alignment sequence, and the octets of the others.
use Rattle.std.proofs.Common.{◌≡◌, ℕ, zero, suc, ◌+◌, ◌*◌, ◌<◌, ◌∷◌, map, take, drop, Some, None, refl, ap, ◌∙◌, arith}
use Rattle.std.proofs.lemmas.Simd.{map-map}
use Rattle.jesd_base.specs.Bits.{bits, value}
use Rattle.link_params.specs.declared.cells.LaneCell.{LaneCell}
use Rattle.link_params.specs.declared.fields.Params.{Params}
use Rattle.link_params.specs.declared.orders.TxOrder.{TxOrder}
use Rattle.link_params.specs.declared.orders.TxOrder.TheVariants.{Comma, Ilas, Data, Silent, Block}
use Rattle.link_params.specs.Lanes.{Entry, Placed, Held}
use Rattle.link_params.specs.Numbers.{octets_per_tick}
use Rattle.scenario.specs.Plans.{numbers_from}
use Rattle.link_model.specs.Sends.{data_place}
use Rattle.link_model.specs.Gives.{octets_in}
use Rattle.link_model.proofs.NumberLists.{map-numbers}
use Rattle.link_laws.specs.LaneLaws.{Carries}
use Rattle.link_laws.proofs.OctetNumbers.{number_of, octet-of-number}

-- what an entry holds, where it is data
abbrev pub HoldsValue : Entry → ℕ → Type 0
HoldsValue Placed v = Unit {0}
HoldsValue (Held c) v = c.value ≡ v

-- an entry of the alignment sequence is a place, and one of data holds what was handed
pub shape-placed : (o : TxOrder) (v : ℕ) (e : Entry) → Carries o v e → data_place o ≡ None
    → e ≡ Placed
shape-placed (Ilas x) v Placed carries none = refl
shape-placed (Ilas x) v (Held c) carries none = absurd carries
shape-placed (Data x first) v e carries none = let bad : Some x ≡ None = none in absurd (cc)
shape-placed (Block x first) v e carries none = let bad : Some x ≡ None = none in absurd (cc)
shape-placed Comma v e carries none = absurd carries
shape-placed Silent v e carries none = absurd carries

pub shape-held : (o : TxOrder) (v y : ℕ) (e : Entry) → Carries o v e → data_place o ≡ Some y
    → (c : LaneCell) × (e ≡ Held c) × (c.value ≡ v)
shape-held (Ilas x) v y e carries some = let bad : None ≡ Some y = some in absurd (cc)
shape-held (Data x first) v y Placed carries some = absurd carries
shape-held (Data x first) v y (Held c) carries some = (c, refl, carries)
shape-held (Block x first) v y Placed carries some = absurd carries
shape-held (Block x first) v y (Held c) carries some = (c, refl, carries)
shape-held Comma v y e carries some = absurd carries
shape-held Silent v y e carries some = absurd carries

shifted-from : {A : Type 0} (m a b : ℕ) (f : ℕ → A)
    → map f (numbers_from (a + b) m) ≡ map (λ i. f (a + i)) (numbers_from b m)
unfolding numbers_from
shifted-from zero a b f = refl
shifted-from (suc m) a b f =
    let e : suc (a + b) ≡ a + suc b = omega arith in
    ap (λ l. f (a + b) ∷ l) (ap (λ (k : ℕ). map f (numbers_from k m)) e
    ∙ shifted-from m a (suc b) f)

-- numbers from a on, as sums
pub shifted : {A : Type 0} (m a : ℕ) (f : ℕ → A)
    → map f (numbers_from a m) ≡ map (λ i. f (a + i)) (numbers_from 0 m)
shifted m a f = let e : a ≡ a + 0 = omega arith in ap (λ (k : ℕ). map f (numbers_from k m)) e
    ∙ shifted-from m a 0 f

-- the octets of a cell whose value is a number of octets
pub octets-of-cell : (p : Params) (c : LaneCell) (f : ℕ → ℕ)
    → ((j : ℕ) → j < octets_per_tick p → f j < 256) → c.value ≡ number_of f (octets_per_tick p)
    → map (λ (x : LaneCell). x.value) (octets_in p c) ≡ map f (numbers_from 0 (octets_per_tick p))
octets-of-cell p c f small is =
    let n : ℕ = octets_per_tick p in
    map-map (λ (x : LaneCell). x.value)
    (λ j. let y : LaneCell =
    record { value = value (take 8 (drop (8 * j) (bits (8 * n) c.value))); mark = c.mark } in y)
    (numbers_from 0 n)
    ∙ map-numbers (λ j. value (take 8 (drop (8 * j) (bits (8 * n) c.value)))) f n 0
    (λ j below. ap (λ (v : ℕ). value (take 8 (drop (8 * j) (bits (8 * n) v)))) is
    ∙ octet-of-number n j f (omega arith) small)
