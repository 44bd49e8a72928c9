use Rattle.std.proofs.Common.{◌∙◌, ◌%◌, ◌^◌, ◌+◌, ◌*◌, ◌/◌, ap}
use Rattle.multiblock.specs.kept.Hunts.{Kept}
use Rattle.multiblock.proofs.Hunting.{Took, resumed}
use Rattle.multiblock.proofs.place_hunt.PlaceHunt.resume.Goals as goal

pub returns : goal.returns
returns c =
    let b = c.bits_and_numbers.ensures in
    let l = c.low_bits.ensures in
    let t = c.take.ensures in
    let took : Took c.new-hunt.result c.take.new.self (c.args.word % 2 ^ c.args.rest) = record {
      e = t.e;
      count = t.count;
      last = t.last ∙ l;
      newest = t.newest ∙ ap (λ w. c.new-hunt.result.last * 4 + w / 2 ^ 64) l;
      older = t.older;
    } in
    resumed b.length b.value_of_bits b.bits_of_value b.append c.new-hunt.result c.take.new.self _ c.args.e c.args.word c.args.rest c.requires.rest
    c.new-hunt.ensures took
    (ap (λ (k : Kept). k.e) c.hunt.view_is) c.from.ensures (ap (λ (k : Kept). k.last) c.hunt.view_is) (ap (λ (k : Kept). k.at) c.hunt.view_is) (ap (λ (k : Kept). k.heads) c.hunt.view_is)
