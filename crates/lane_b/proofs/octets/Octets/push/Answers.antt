use Rattle.std.proofs.Common.{arith, ap₂, Bool, false, ◌++◌, ◌∷◌, [], ◌≡◌, ℕ, ◌≤◌, ◌||◌, length, sym, ap, ◌∙◌}
use Rattle.link_params.proofs.LawFacts.{legal_sizes}
use Rattle.std.specs.List.{flat_map}
use Rattle.jesd_base.specs.Bits.{bits}
use Rattle.link_params.specs.declared.fields.Params.{Params}
use Rattle.link_params.specs.declared.cells.LaneCell.{LaneCell}
use Rattle.lane_b.specs.Received.{restored, marked, data_cells}
use Rattle.lane_b.specs.kept.Cells.{octets_read, bad_read, last_of, last_but_one_of}
use Rattle.lane_b.proofs.Restored.{fault-due, restored-push}
use Rattle.lane_b.proofs.Giving.{octets-push, bad-push, bits_of-push, last-push, last_but_one-push, cell-plain, cell-scrambled}
use Rattle.lane_b.proofs.octets.Octets.push.Goals as goal
use Rattle.lane_b.proofs.octets.Octets.push.Goals.{then-params, else-params}

abbrev cell : ℕ → Bool → LaneCell
cell o b = record { value = o; mark = marked b }

pub returns-clause-fault : goal.returns-clause-fault
returns-clause-fault c = λ p read h at.
    let was = rw (← c.self.view_is) at h in
    let same : c.self.inside.shape ≡ p = was.params in
    let some : 1 ≤ p.f = rw same at (legal_sizes c.self.inside.shape c.params.ensures.legal).f_low in
    let next = c.push-restored.ensures p read (restored p read (length read)) was.restored_so at in
    fault-due p read c.args.reading c.push-restored.result some next.restored

pub returns-clause-cell : goal.returns-clause-cell
returns-clause-cell c = λ p read h at.
    let was = rw (← c.self.view_is) at h in
    let same : c.self.inside.shape ≡ p = was.params in
    let some : 1 ≤ p.f = rw same at (legal_sizes c.self.inside.shape c.params.ensures.legal).f_low in
    let next = c.push-restored.ensures p read (restored p read (length read)) was.restored_so at in
    let more = restored-push p read c.args.reading c.push-restored.result some next.restored in
    let scr : c.params.result.scr ≡ p.scr = ap (λ (q : Params). q.scr) (c.params.ensures.same ∙ same) in
    let octet = c.descramble-octet.ensures.answer (flat_map (bits 8) (octets_read p read)) was.descrambled_so in
    let bad = c.is_bad_scrambled-bad.ensures ∙ ap₂ (λ (two one : Bool). two || one || c.push-restored.result.bad) was.two_bad was.one_bad in
    elim c.if-params.branch [
      | then-params w ↦
          let x = cell-scrambled p read c.args.reading c.push-restored.result more c.descramble-octet.result (omega arith) (sym scr ∙ w.if-params.true) octet in
          let is = w.cell-is ∙ w.cell-cell.ensures ∙ ap (cell c.descramble-octet.result) bad in
          x ∙ ap (λ (l : LaneCell). data_cells p read ++ l ∷ []) (sym is)
      | else-params w ↦
          let x = cell-plain p read c.args.reading c.push-restored.result more (sym scr ∙ w.if-params.false) in
          x ∙ ap (λ (l : LaneCell). data_cells p read ++ l ∷ []) (sym (w.cell-is ∙ w.cell-cell-else-params.ensures))
    ]

pub returns-clause-goes_on : goal.returns-clause-goes_on
returns-clause-goes_on c = λ p read h at.
    let was = rw (← c.self.view_is) at h in
    let same : c.self.inside.shape ≡ p = was.params in
    let some : 1 ≤ p.f = rw same at (legal_sizes c.self.inside.shape c.params.ensures.legal).f_low in
    let next = c.push-restored.ensures p read (restored p read (length read)) was.restored_so at in
    let more = restored-push p read c.args.reading c.push-restored.result some next.restored in
    let octets = octets-push p read c.args.reading c.push-restored.result more in
    let bad = bad-push p read c.args.reading c.push-restored.result more in
    record {
      params = was.params;
      restored_so = rw more next;
      descrambled_so = rw (octets, bits_of-push) (c.descramble-octet.ensures.stands _ was.descrambled_so);
      one_bad = sym (ap (last_of false) bad ∙ last-push (bad_read p read) false c.push-restored.result.bad);
      two_bad = was.one_bad ∙ sym (ap (last_but_one_of false false) bad ∙ last_but_one-push (bad_read p read) false false c.push-restored.result.bad);
    }
