use Rattle.std.proofs.Common.{◌≡◌, ◌*◌, ◌+◌, fold, take}
use Rattle.link_run.proofs.frame_octets.joined_each.Given as goal

abbrev pub invariant-loop-octet : goal.invariant-loop-octet
invariant-loop-octet l = l.all
    ≡ fold (λ v octet. v * 256 + octet) l.number (take l.octet-index l.octets)
