use Rattle.link_run.proofs.SyncLemmas.{in_place, one_more}
use Rattle.link_run.proofs.sync_line.SyncLine.push.Goals as goal

pub returns : goal.returns
returns c = λ delay lows h.
    let kept = in_place c.self.inside.levels.items c.self.inside.levels.capacity c.args.low
    c.self.invariant.0 c.self.invariant.1 in
    rw (c.push_back.ensures.items, kept, c.self.view_is)
    (one_more c.args.self.now delay lows c.args.low h)
