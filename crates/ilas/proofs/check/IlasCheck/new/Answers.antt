use Rattle.std.proofs.Common.{◌≡◌, ◌+◌, ◌-◌, ◌*◌, List, [], take, drop, take_all, drop_of_length-le, refl, ◌∙◌, ap, arith}
use Rattle.link_params.specs.declared.fields.Params.{Params}
use Rattle.link_params.specs.Numbers.{period}
use Rattle.code_8b10b.specs.declared.character.Reading.{Reading}
use Rattle.ilas.specs.Checked.{first_fault}
use Rattle.ilas.proofs.check.IlasCheck.new.Goals as goal

pub returns : goal.returns
unfolding first_fault
returns c =
    let p : Params = c.args.link.now.params in
    let nothing : List Reading = [] in
    let none : take (4 * period p) nothing ≡ nothing = take_all (4 * period p) nothing (omega arith) in
    let past : drop (period p + 2) nothing ≡ nothing = drop_of_length-le nothing (omega arith) in
    let size : c.period-period.result ≡ period p = c.period-period.ensures.value ∙ ap period c.shape.ensures.same in
    let start : 0 - (period p + 2) ≡ 0 = omega arith in
    record {
      params = refl;
      of_lane = refl;
      first = λ later. rw none refl;
      goes_on = λ fine. record { place = refl; more = omega (arith, size, c.period-period.ensures.low); octets = rw (start, past) refl };
    }
