use Rattle.std.proofs.Math.Nat.{mul-le-mul}
use Rattle.link_params.proofs.LawFacts.{legal_sizes}
use Rattle.link_params.proofs.shape.Shape.frame_words.Goals as goal

pub returns-clause-bound : goal.returns-clause-bound
returns-clause-bound c = let s = legal_sizes c.self.inside.params c.self.invariant in mul-le-mul s.m s.s
