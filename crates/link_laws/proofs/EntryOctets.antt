-- The octets of the entries of a released session are those of the frames that entered.
use Rattle.std.proofs.Common.{◌≡◌, ℕ, ◌+◌, ◌-◌, ◌*◌, ◌/◌, ◌<◌, ◌≤◌, ◌%◌, nat_lt, if◌then◌else◌, length, map, filter, slice_index, Option, Some, None, inl, inr, refl, sym, subst, ap, ◌∙◌, arith}
use Rattle.std.proofs.lemmas.Bool.{cases_lt, cond-true, cond-false, lt-ltb, le-ltb}
use Rattle.std.proofs.lemmas.Nat.{div-mul-add, mul-add-lt}
use Rattle.link_params.specs.declared.cells.LaneCell.{LaneCell}
use Rattle.link_params.specs.declared.fields.Params.{Params}
use Rattle.link_params.specs.Lanes.{Entry, Placed, Held, LaneKind}
use Rattle.link_params.specs.Numbers.{octets_per_tick, period}
use Rattle.link_params.proofs.LawFacts.{legal_sizes}
use Rattle.sample_map.specs.Frames.{frame_of}
use Rattle.sample_map.proofs.GivesFrame.{octet-below}
use Rattle.scenario.specs.Plans.{Plan, numbers_from, source_frame}
use Rattle.link_model.specs.Sends.{begins_frame, data_place, frames_before, handed_to, octet_of}
use Rattle.link_model.specs.Gives.{octets_given, octets_in}
use Rattle.link_model.specs.Run.{run}
use Rattle.link_model.proofs.NumberLists.{map-numbers}
use Rattle.link_model.specs.Sessions.{at, entries_at}
use Rattle.link_model.specs.Wiring.{wire_of}
use Rattle.link_laws.proofs.SetAsWired.{wired}
use Rattle.link_laws.specs.LaneLaws.{IsEntryOf}
use Rattle.link_laws.specs.Laws.{IsPlanRead}
use Rattle.link_laws.proofs.OrdersGo.{ilas_ticks}
use Rattle.link_laws.proofs.FramesEnter.{begun-before, begun_in, first_frame}
use Rattle.link_laws.proofs.FramesHanded.{handed-lane, octet-is}
use Rattle.link_laws.proofs.Delivered.{IsShaped, length-octets, octets-are, octets_of_entry}
use Rattle.link_laws.proofs.OctetNumbers.{number_of}
use Rattle.link_laws.proofs.EntryShapes.{octets-of-cell, shape-held, shape-placed, shifted}

-- octet x of the data of a lane, where the frame that begins the data has this number
abbrev pub data_octet : Plan → ℕ → ℕ → ℕ → ℕ
data_octet s first lane x =
    slice_index (frame_of s.link.params (source_frame s (first + x / s.link.params.f)))
    (lane * s.link.params.f + x % s.link.params.f)

-- the tick in which data begins, after a first place in tick b
abbrev pub data_tick : Params → ℕ → ℕ
data_tick p b = b + ilas_ticks p

-- the number of the first frame of that data
abbrev pub first_of : LaneKind → Plan → ℕ → ℕ
first_of kind s b = frames_before (run kind s (data_tick s.link.params b))

-- entry j is a place, or holds the octets of its tick
pub record GivesOctets (p : Params) (j : ℕ) (e : Entry) (octet : ℕ → ℕ) : Type 0 where
  pub shaped : IsShaped p j e
  pub octets : map (λ (c : LaneCell). c.value) (octets_of_entry p e)
      ≡ map octet
      (numbers_from (octets_per_tick p * (j - ilas_ticks p)) (length (octets_of_entry p e)))

handed-number : (s : Plan) (n y lane : ℕ)
    → handed_to s n (Some y) lane ≡ number_of (octet_of s n y lane) (octets_per_tick s.link.params)
unfolding handed_to
handed-number s n y lane = refl

pub frame_size : (s : Plan) → IsPlanRead s → 0 < s.link.params.f
frame_size s read = let low = (legal_sizes s.link.params read.laws).f_low in omega arith

octet-small : (s : Plan) (n y lane i : ℕ) → IsPlanRead s → lane < s.link.params.l
    → octet_of s n y lane i < 256
octet-small s n y lane i read below =
    let p = s.link.params in
    let x : ℕ = octets_per_tick p * y + i in
    let some = frame_size s read in
    let small : x % p.f < p.f = omega arith in
    let inside = mul-add-lt lane p.f (x % p.f) p.l below small in
    octet-below p
    (source_frame s (n + length (filter (begins_frame p y) (numbers_from 0 (i + 1))) - 1))
    (lane * p.f + x % p.f) (omega arith)

placed-gives : (p : Params) (j : ℕ) (octet : ℕ → ℕ) → j < ilas_ticks p
    → GivesOctets p j Placed octet
unfolding numbers_from
placed-gives p j octet early = record { shaped = early; octets = refl }

held-gives : (p : Params) (j : ℕ) (octet : ℕ → ℕ) (c : LaneCell) → ilas_ticks p ≤ j
    → map (λ (x : LaneCell). x.value) (octets_in p c)
    ≡ map octet (numbers_from (octets_per_tick p * (j - ilas_ticks p)) (octets_per_tick p))
    → GivesOctets p j (Held c) octet
held-gives p j octet c late is = record {
  shaped = late;
  octets = is ∙ ap (λ (n : ℕ). map octet (numbers_from (octets_per_tick p * (j - ilas_ticks p)) n))
      (sym (length-octets p c));
}

module _ (kind : LaneKind) (s : Plan) (h t b : ℕ) (read : IsPlanRead s)
    (places : (j : ℕ) → b + j ≤ t → data_place (at kind s (b + j)).order
    ≡ (if nat_lt j (ilas_ticks s.link.params) then None else Some
    ((j - ilas_ticks s.link.params) % period s.link.params))) where
  pub data-places : (j : ℕ) → data_tick s.link.params b + j ≤ t
      → data_place (at kind s (data_tick s.link.params b + j)).order
      ≡ Some (j % period s.link.params)
  data-places j up =
      let p = s.link.params in
      let n : ℕ = ilas_ticks p in
      let same : b + (n + j) ≡ b + n + j = omega arith in
      let back : n + j - n ≡ j = omega arith in
      ap (λ (k : ℕ). data_place (at kind s k).order) (sym same) ∙ places (n + j) (omega arith)
      ∙ cond-false (nat_lt (n + j) n) None (Some ((n + j - n) % period p))
      (le-ltb (n + j) n (omega arith))
      ∙ ap (λ (k : ℕ). Some (k % period p)) back

  pub first-is : data_tick s.link.params b ≤ t
      → first_frame kind s (data_tick s.link.params b) t read.laws (frame_size s read) data-places
      ≡ first_of kind s b
  first-is up =
      let p = s.link.params in
      let d : ℕ = data_tick p b in
      let some = frame_size s read in
      let here : d + 0 ≡ d = omega arith in
      let before = begun-before kind s d t read.laws some data-places 0 (omega arith) in
      let count = ap (λ (u : ℕ). frames_before (run kind s u)) here in
      let none : octets_per_tick p * 0 + (p.f - 1) ≡ 0 * p.f + (p.f - 1) = omega arith in
      let zero_begun : begun_in p.f (octets_per_tick p * 0) ≡ 0 = ap (λ (n : ℕ). n / p.f) none
      ∙ div-mul-add 0 p.f (p.f - 1) (omega arith) in
      omega arith

  -- the octets that are handed of a tick of data
  handed-octets : (lane j : ℕ) (c : LaneCell) → lane < s.link.params.l
      → data_tick s.link.params b + j ≤ t
      → c.value ≡ slice_index (at kind s (data_tick s.link.params b + j)).handed lane
      → map (λ (x : LaneCell). x.value) (octets_in s.link.params c)
      ≡ map (data_octet s (first_of kind s b) lane)
      (numbers_from (octets_per_tick s.link.params * j) (octets_per_tick s.link.params))
  handed-octets lane j c below up is =
      let p = s.link.params in
      let u : ℕ = data_tick p b + j in
      let n : ℕ = frames_before (run kind s u) in
      let y : ℕ = j % period p in
      let value : c.value ≡ number_of (octet_of s n y lane) (octets_per_tick p) =
      is ∙ handed-lane kind s u lane below ∙ ap (λ (o : Option ℕ). handed_to s n o lane)
      (data-places j up) ∙ handed-number s n y lane in
      octets-of-cell p c (octet_of s n y lane) (λ i inside. octet-small s n y lane i read below)
      value
      ∙ map-numbers (octet_of s n y lane)
      (λ i. data_octet s (first_of kind s b) lane (octets_per_tick p * j + i)) (octets_per_tick p) 0
      (λ i inside. octet-is kind s (data_tick p b) t read.laws (frame_size s read) data-places lane
      j i (omega arith) up
      ∙ ap (λ (first : ℕ). data_octet s first lane (octets_per_tick p * j + i))
      (first-is (omega arith)))
      ∙ sym (shifted (octets_per_tick p) (octets_per_tick p * j)
      (data_octet s (first_of kind s b) lane))

  -- what entry j gives
  pub entry-octets : (lane j : ℕ) → lane < s.link.params.l → b + j ≤ t
      → (e : IsEntryOf kind s h lane t j (b + j))
      → GivesOctets s.link.params j e.entry (data_octet s (first_of kind s b) (wire_of s lane))
  entry-octets lane j below up e =
      let p = s.link.params in
      let n : ℕ = ilas_ticks p in
      let octet : ℕ → ℕ = data_octet s (first_of kind s b) (wire_of s lane) in
      let order = (at kind s (b + j)).order in
      let handed : ℕ = slice_index (at kind s (b + j)).handed (wire_of s lane) in
      elim (cases_lt j n) [
        | inl early ↦
            let place = places j up ∙ cond-true (nat_lt j n) None (Some ((j - n) % period p))
            (lt-ltb j n early) in
            subst (λ (x : Entry). GivesOctets p j x octet)
            (sym (shape-placed order handed e.entry e.carries place))
            (placed-gives p j octet early)
        | inr late ↦
            let place = places j up ∙ cond-false (nat_lt j n) None (Some ((j - n) % period p))
            (le-ltb j n late) in
            let k = shape-held order handed ((j - n) % period p) e.entry e.carries place in
            let same : b + j ≡ data_tick p b + (j - n) = omega arith in
            let value : k.0.value
            ≡ slice_index (at kind s (data_tick p b + (j - n))).handed (wire_of s lane) =
            k.2 ∙ ap (λ (u : ℕ). slice_index (at kind s u).handed (wire_of s lane)) same in
            subst (λ (x : Entry). GivesOctets p j x octet) (sym k.1)
            (held-gives p j octet k.0 late
            (handed-octets (wire_of s lane) (j - n) k.0 (wired s lane read below) (omega arith)
            value))
      ]

  -- all octets that a lane gave in n ticks
  pub given-octets : (lane n : ℕ) → lane < s.link.params.l
      → ((j : ℕ) → j < n → (b + j ≤ t) × IsEntryOf kind s h lane t j (b + j))
      → map (λ (c : LaneCell). c.value) (octets_given s.link.params n (entries_at kind s lane t))
      ≡ map (data_octet s (first_of kind s b) (wire_of s lane))
      (numbers_from 0 (octets_per_tick s.link.params * (n - ilas_ticks s.link.params)))
  given-octets lane n below entries =
      octets-are n s.link.params (entries_at kind s lane t)
      (data_octet s (first_of kind s b) (wire_of s lane))
      (λ j inside.
      let e = entries j inside in
      let g = entry-octets lane j below e.0 e.1 in
      (e.1.entry, e.1.found, g.shaped, g.octets))
