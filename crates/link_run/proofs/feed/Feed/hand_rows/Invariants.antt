use Rattle.std.proofs.Common.{◌≡◌, ◌<◌, ◌≤◌, ◌+◌, ◌*◌, ◌-◌, ◌%◌, ◌^◌, All}
use Rattle.link_params.specs.Numbers.{octets_per_tick}
use Rattle.link_run.specs.kept.Handed.{Hands}
use Rattle.link_run.proofs.feed.Feed.hand_rows.Given as goal

abbrev pub decreases-loop-done : goal.decreases-loop-done
decreases-loop-done l = l.per_tick - l.done

abbrev pub invariant-loop-done : goal.invariant-loop-done
invariant-loop-done l = record {
  hands : Hands l.s l.fn.self l.self l.place l.done l.handed;
  small : All (λ v. v < 256 ^ l.done) l.handed;
  most : l.done ≤ l.per_tick;
  inside : l.at < l.size;
  place : l.done < l.per_tick
      → l.at ≡ (octets_per_tick l.fn.self.params * l.place + l.done) % l.fn.self.params.f;
}
