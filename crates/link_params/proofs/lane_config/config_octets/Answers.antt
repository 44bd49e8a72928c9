use Rattle.std.proofs.Common.{◌≡◌, ◌∙◌, ap, arith}
use Rattle.link_params.specs.Laws.{is_b}
use Rattle.link_params.proofs.LawFacts.{HaveRoom, rooms}
use Rattle.link_params.proofs.ConfigFacts.{config_octets-is}
use Rattle.link_params.proofs.lane_config.config_octets.Goals as goal

pub overflow_add-sum-4 : goal.overflow_add-sum-4
overflow_add-sum-4 c =
    let r = rooms c.args.link.now.params c.shape.ensures.legal (ap is_b c.requires.mode) in
    let small : HaveRoom c.params-p.result = rw (c.params-p.ensures.same, c.shape.ensures.same) r in
    omega arith

pub overflow_add-sum-5 : goal.overflow_add-sum-5
overflow_add-sum-5 c =
    let r = rooms c.args.link.now.params c.shape.ensures.legal (ap is_b c.requires.mode) in
    let small : HaveRoom c.params-p.result = rw (c.params-p.ensures.same, c.shape.ensures.same) r in
    omega arith

pub overflow_add-sum-6 : goal.overflow_add-sum-6
overflow_add-sum-6 c =
    let r = rooms c.args.link.now.params c.shape.ensures.legal (ap is_b c.requires.mode) in
    let small : HaveRoom c.params-p.result = rw (c.params-p.ensures.same, c.shape.ensures.same) r in
    omega arith

pub overflow_add-sum-7 : goal.overflow_add-sum-7
overflow_add-sum-7 c =
    let r = rooms c.args.link.now.params c.shape.ensures.legal (ap is_b c.requires.mode) in
    let small : HaveRoom c.params-p.result = rw (c.params-p.ensures.same, c.shape.ensures.same) r in
    omega arith

pub overflow_add-sum-8 : goal.overflow_add-sum-8
overflow_add-sum-8 c =
    let r = rooms c.args.link.now.params c.shape.ensures.legal (ap is_b c.requires.mode) in
    let small : HaveRoom c.params-p.result = rw (c.params-p.ensures.same, c.shape.ensures.same) r in
    omega arith

pub overflow_add-sum-9 : goal.overflow_add-sum-9
overflow_add-sum-9 c =
    let r = rooms c.args.link.now.params c.shape.ensures.legal (ap is_b c.requires.mode) in
    let small : HaveRoom c.params-p.result = rw (c.params-p.ensures.same, c.shape.ensures.same) r in
    omega arith

pub overflow_add-sum-10 : goal.overflow_add-sum-10
overflow_add-sum-10 c =
    let r = rooms c.args.link.now.params c.shape.ensures.legal (ap is_b c.requires.mode) in
    let small : HaveRoom c.params-p.result = rw (c.params-p.ensures.same, c.shape.ensures.same) r in
    omega arith

pub overflow_add-sum-11 : goal.overflow_add-sum-11
overflow_add-sum-11 c =
    let r = rooms c.args.link.now.params c.shape.ensures.legal (ap is_b c.requires.mode) in
    let small : HaveRoom c.params-p.result = rw (c.params-p.ensures.same, c.shape.ensures.same) r in
    omega arith

pub overflow_add-sum-12 : goal.overflow_add-sum-12
overflow_add-sum-12 c =
    let r = rooms c.args.link.now.params c.shape.ensures.legal (ap is_b c.requires.mode) in
    let small : HaveRoom c.params-p.result = rw (c.params-p.ensures.same, c.shape.ensures.same) r in
    omega arith

pub overflow_cast-result-4 : goal.overflow_cast-result-4
overflow_cast-result-4 c =
    let r = rooms c.args.link.now.params c.shape.ensures.legal (ap is_b c.requires.mode) in
    let small : HaveRoom c.params-p.result = rw (c.params-p.ensures.same, c.shape.ensures.same) r in
    omega arith

pub returns : goal.returns
returns c =
    let e : c.params-p.result ≡ c.args.link.now.params = c.params-p.ensures.same ∙ c.shape.ensures.same in
    rw (← e) (config_octets-is c.params-p.result c.args.lane c.one_if-scr.result c.one_if-hd.result c.one_if-scr.ensures.value c.one_if-hd.ensures.value)
