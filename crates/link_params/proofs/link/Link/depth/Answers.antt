use Rattle.std.proofs.Common.{◌≡◌, arith, ap}
use Rattle.link_params.proofs.LawFacts.{timely}
use Rattle.link_params.proofs.link.Link.depth.Goals as goal

pub overflow_sub-result : goal.overflow_sub-result
overflow_sub-result c = let a = c.lat_ticks.ensures in let b = c.wait.ensures in omega arith

pub overflow_sub-result-2 : goal.overflow_sub-result-2
overflow_sub-result-2 c =
    let t = timely c.self.inside.shape c.self.inside.timing c.self.invariant in
    let a = c.lat_ticks.ensures in
    let b = c.wait.ensures in
    let high : c.self.inside.timing.w_hi ≡ c.args.self.now.timing.w_hi = ap (λ k. k.timing.w_hi) c.self.view_is in
    omega arith

pub returns-clause-within : goal.returns-clause-within
returns-clause-within c =
    let t = timely c.self.inside.shape c.self.inside.timing c.self.invariant in
    let high : c.self.inside.timing.w_hi ≡ c.args.self.now.timing.w_hi = ap (λ k. k.timing.w_hi) c.self.view_is in
    let a = c.lat_ticks.ensures in
    let b = c.wait.ensures in
    let low : c.self.inside.timing.w_lo ≡ c.args.self.now.timing.w_lo = ap (λ k. k.timing.w_lo) c.self.view_is in
    omega arith
