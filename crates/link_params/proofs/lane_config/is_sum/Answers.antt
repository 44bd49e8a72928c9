use Rattle.std.proofs.Common.{◌≡◌, ◌≢◌, ◌%◌, ℕ, get_or, sym, ◌∙◌, ap, eq-eqb, ne_eqb}
use Rattle.std.specs.List.{sum}
use Rattle.link_params.specs.Config.{has_sum, read_values}
use Rattle.link_params.proofs.ConfigFacts.{sum-read_values}
use Rattle.link_params.proofs.lane_config.is_sum.Goals as goal

pub returns-then-octets-of_fields : goal.returns-then-octets-of_fields
unfolding has_sum
returns-then-octets-of_fields c = λ e.
    let s = ap (λ (n : ℕ). n % 256) (sum-read_values c.args.config.now c.args.octets.now e) in
    let same : get_or c.args.octets.now 13 0 ≡ sum (read_values c.args.octets.now) % 256 = c.if-octets-of_fields.true ∙ c.sum_of_fields-of_fields.ensures ∙ s in
    rw (eq-eqb (get_or c.args.octets.now 13 0) (sum (read_values c.args.octets.now) % 256) same) (eq-eqb (get_or c.args.octets.now 13 0) c.sum_of_fields-of_fields.result c.if-octets-of_fields.true)

pub returns-else-octets-of_fields : goal.returns-else-octets-of_fields
unfolding has_sum
returns-else-octets-of_fields c = λ e.
    let s = ap (λ (n : ℕ). n % 256) (sum-read_values c.args.config.now c.args.octets.now e) in
    let apart : get_or c.args.octets.now 13 0 ≢ sum (read_values c.args.octets.now) % 256 = λ same. c.if-octets-of_fields.false (same ∙ sym s ∙ sym c.sum_of_fields-of_fields.ensures) in
    rw (ne_eqb (get_or c.args.octets.now 13 0) (sum (read_values c.args.octets.now) % 256) apart, c.sum_of_octets-of_octets.ensures)
