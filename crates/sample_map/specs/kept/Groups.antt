-- Words in octets, group by group (JESD204B.01 clause 5.1, transport layer): a group is a lane, or
-- the whole frame with HD.
-- Code: so, with the bits in hand as one number; words of whole octets that fill each group, one after
-- another.
use Rattle.std.specs.Prelude.{◌≡◌, ℕ, ◌+◌, ◌-◌, ◌*◌, ◌/◌, ◌%◌, ◌<◌, nat_lt, if◌then◌else◌, List, slice_index}
use Rattle.std.specs.Int.{bit_at}
use Rattle.link_params.specs.declared.fields.Params.{Params}

-- words of a group, octets of a group, bits of a word, and how many of these carry sample and control
pub record Grouping : Type 0 where
  pub words : ℕ
  pub octets : ℕ
  pub width : ℕ
  pub used : ℕ

abbrev pub groups : Params → ℕ
groups p = if p.hd then 1 else p.l

abbrev pub grouping : Params → Grouping
grouping p = record {
  words = if p.hd then p.m * p.s else p.m * p.s / p.l;
  octets = if p.hd then p.l * p.f else p.f;
  width = p.np;
  used = p.n + p.cs;
}

abbrev pub bit_in_word : Grouping → ℕ → ℕ → ℕ
bit_in_word g word b = if nat_lt b g.used then bit_at word (g.used - 1 - b) else 0

-- the bit at place x of a group, 0 behind its words
abbrev pub group_bit : Grouping → List ℕ → ℕ → ℕ → ℕ
group_bit g words group x =
    if nat_lt x (g.words * g.width) then bit_in_word g (slice_index words (group * g.words + x / g.width)) (x % g.width) else 0

-- octet k of all groups has the eight bits from its place in its group on
abbrev pub HasOctet : Grouping → List ℕ → ℕ → ℕ → Type 0
HasOctet g words k octet = (i : ℕ) → i < 8 → bit_at octet (7 - i) ≡ group_bit g words (k / g.octets) (8 * (k % g.octets) + i)

-- word r of all groups has its bits from its place in its group's octets on
abbrev pub HasWord : Grouping → List ℕ → ℕ → ℕ → Type 0
HasWord g octets r word = (b : ℕ) → b < g.used → bit_at word (g.used - 1 - b)
    ≡ bit_at (slice_index octets (r / g.words * g.octets + (r % g.words * g.width + b) / 8)) (7 - (r % g.words * g.width + b) % 8)
