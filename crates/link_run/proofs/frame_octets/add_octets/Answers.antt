use Rattle.std.proofs.Common.{◌≡◌, ◌∙◌, ℕ, ◌+◌, ◌-◌, ap, arith, drop, fold, get_or, length, slice_set, take}
use Rattle.link_run.specs.kept.Handed.{with_octets}
use Rattle.link_run.proofs.FrameOctets.{behind, with_octets-below, with_octets-one}
use Rattle.link_run.proofs.frame_octets.add_octets.Goals as goal

only-is : (c : goal.After-joined) → slice_set c.args.handed.now 0 c.joined.result
    ≡ with_octets c.args.octets.now c.args.size c.args.at c.args.count c.args.handed.now
only-is c =
    let at = c.args.at in
    let n = c.args.count in
    let all = c.requires.octets in
    let room = c.requires.at in
    let least = c.in-len1.len_at_least in
    let most = c.in-len1.len_below in
    let one : length c.args.handed.now ≡ 1 = omega arith in
    let many : at + n - at ≡ n = omega arith in
    with_octets-one c.args.octets.now c.args.size at n c.joined.result c.args.handed.now one
    (rw (all, one) (omega arith))
    (c.joined.ensures ∙ ap (λ (k : ℕ). fold behind (get_or c.args.handed.now 0 0)
    (take k (drop at c.args.octets.now))) many)

pub returns-in-len1-clause-handed : goal.returns-in-len1-clause-handed
returns-in-len1-clause-handed c = only-is c

pub returns-in-len1-clause-small : goal.returns-in-len1-clause-small
returns-in-len1-clause-small c = λ m small.
    rw (only-is c) (with_octets-below c.args.octets.now c.args.size c.args.at c.args.count m
    c.args.handed.now (λ k. let octet = c.type_inv.octets k in omega arith) small)
