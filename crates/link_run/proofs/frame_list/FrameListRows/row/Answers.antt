use Rattle.std.proofs.Common.{Some, refl, sym, ap}
use Rattle.link_run.specs.Frames.{Kept}
use Rattle.link_run.proofs.TakenFrames.{other-row, took-frame, took-other}
use Rattle.link_run.proofs.frame_list.FrameListRows.row.Goals as goal

pub keep-requires : goal.keep-requires
keep-requires c =
    let h = c.requires.words c.args.self.now.params refl in
    rw c.in-Frame.is at h

pub returns-in-Frame-clause-took : goal.returns-in-Frame-clause-took
returns-in-Frame-clause-took c = λ first before h.
    took-frame first c.args.self.now c.keep.new.self before
    (record { row = c.args.row.now; words = c.args.words.now })
    (rw c.in-Frame.is c.keep.ensures) (rw c.in-Frame.is refl) h

pub returns-in-End-clause-took : goal.returns-in-End-clause-took
returns-in-End-clause-took c = λ first before h.
    took-other first c.args.self.now _ before
    (record { row = c.args.row.now; words = c.args.words.now })
    (rw c.in-End.is (ap (λ (v : Kept). record v { totals = Some c.in-End.totals }) c.self.view_is))
    (rw c.in-End.is refl) h

pub returns-in_default-clause-took : goal.returns-in_default-clause-took
returns-in_default-clause-took c = λ first before h.
    let old = c.args.self.now in
    let other = other-row c.args.row.now c.args.words.now old.totals c.in_default.not-Frame
    c.in_default.not-End in
    took-other first old old before (record { row = c.args.row.now; words = c.args.words.now })
    (ap (λ o. record old { totals = o }) (sym other.1)) other.0 h
