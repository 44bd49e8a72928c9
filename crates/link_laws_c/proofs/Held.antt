-- On an undamaged line with no pattern off the grid the least place of a session is held, whatever
-- transmission it begins in, and it is the same in all later ticks.
use Rattle.std.proofs.Common.{◌≡◌, ℕ, ◌<◌, ◌≤◌, false, Some, inl, inr, sym, ap, ◌∙◌, arith}
use Rattle.std.proofs.lemmas.Bool.{cases_lt}
use Rattle.link_params.specs.declared.alarms.Device.TheVariants.{Tx}
use Rattle.link_params.specs.Laws.{is_b}
use Rattle.scenario.specs.Plans.{Plan}
use Rattle.link_model.specs.Edges.{edge_tick}
use Rattle.multiblock.specs.Places.{Place, least_place}
use Rattle.multiblock.specs.laws.PlaceLaws.{IsLeastPlace}
use Rattle.multiblock.proofs.PlaceLemmas.{finds_least_place, place_stays}
use Rattle.lane_c.specs.Received.{lanes_c}
use Rattle.lane_c.proofs.SenderSteps.{some-multiblocks}
use Rattle.link_model.specs.Sessions.{InSession, first_tick}
use Rattle.link_laws.specs.Premises.{Lone, Undamaged, lock_pattern}
use Rattle.link_laws.specs.Laws.{IsPlanRead}
use Rattle.link_laws.proofs.Phases.{HasEdges}
use Rattle.link_laws.proofs.PlanRead.{delay-same, has-edges}
use Rattle.link_laws.proofs.ReleaseTick.{goes, untouched}
use Rattle.link_laws.proofs.SessionStages.{Goes, first-low}
use Rattle.link_laws_c.proofs.Holding.{Holds, IsSentPlace, holds, lone-grid, present-form, sent-place}
use Rattle.link_laws_c.proofs.OldBlocks.{old-form}
use Rattle.link_laws_c.proofs.SentBits.{not-b}
use Rattle.link_laws_c.proofs.SessionBits.{length-taken-at}
use Rattle.link_laws_c.proofs.SessionWords.{bits_at, bits-longer}

-- what the lane laws presume of a session of 64b/66b lanes, for one lane
pub record InSessionC (s : Plan) (h t lane : ℕ) : Type 0 where
  pub read : IsPlanRead s
  pub mode : is_b s.link.params.mode ≡ false
  pub below : lane < s.link.params.l
  pub session : InSession lanes_c s h t
  pub lone : Lone lanes_c lock_pattern s h t
  pub damage : Undamaged s h t

module _ (s : Plan) (h t lane : ℕ) (c : InSessionC s h t lane) where
  pub edges : HasEdges s
  edges = has-edges s c.read

  pub on : Goes lanes_c s h t
  on = goes lanes_c s h t c.session c.damage

  pub some-e : 1 ≤ s.link.params.e
  some-e = some-multiblocks s.link.params c.read.laws (not-b s.link.params.mode c.mode)

  -- the least place is held
  pub held : (u : ℕ) (p : Place) → first_tick lanes_c s h ≤ u → u ≤ t
      → least_place s.link.params.e 0 (bits_at lanes_c s lane u) ≡ Some p → Holds s h t lane u p
  held u p low up found =
      let g = on in
      let e = edges in
      let some = some-e in
      let f = first-low lanes_c s h t g in
      let count = length-taken-at s h t g lane u low up in
      let least : IsLeastPlace s.link.params.e 0 (bits_at lanes_c s lane u) p =
      (finds_least_place s.link.params.e 0 (bits_at lanes_c s lane u) p).0 found in
      let clear = untouched s h t c.damage in
      let same = delay-same s lane h t (omega arith) (λ x a b. clear.no_event x a b) in
      let grid = lone-grid s h t u lane p.first p.remainder g low up c.mode c.below c.lone
      least.whole least.stands in
      let sent : IsSentPlace s h t lane p.first = sent-place s h t lane p.first c.mode same grid in
      holds s h t lane u p (omega arith) found sent
      (elim (cases_lt sent.q (edge_tick s Tx sent.edge)) [
        | inr new ↦ present-form s h t lane u p.first sent.q sent.edge g low up e c.mode some
            c.below c.damage sent.gives new sent.stands sent.step
        | inl old ↦ old-form s h t lane u p.first sent.q sent.edge p.remainder g low up c.read e
            c.mode some c.below c.damage sent.gives old sent.stands sent.step least.whole
            least.stands
      ])

  -- a place that is found is found in later ticks
  pub found-later : (u w : ℕ) (p : Place) → first_tick lanes_c s h ≤ u → u ≤ w → w ≤ t
      → least_place s.link.params.e 0 (bits_at lanes_c s lane u) ≡ Some p
      → least_place s.link.params.e 0 (bits_at lanes_c s lane w) ≡ Some p
  found-later u w p low up by found = elim (cases_lt u w) [
    | inr here ↦
        let same : u ≡ w = omega arith in
        ap (λ (n : ℕ). least_place s.link.params.e 0 (bits_at lanes_c s lane n)) (sym same) ∙ found
    | inl before ↦
        let g = on in
        let f = first-low lanes_c s h t g in
        let shorter : Goes lanes_c s h w = record {
          begins = g.begins;
          above = omega arith;
          quiet = λ i a b. g.quiet i a (omega arith);
          goes = λ i a b. g.goes i a (omega arith);
        } in
        let more = bits-longer lanes_c s h w lane u shorter low (omega arith) in
        ap (least_place s.link.params.e 0) more.1
        ∙ place_stays s.link.params.e 0 (bits_at lanes_c s lane u) more.0 p found
  ]
