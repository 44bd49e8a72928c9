-- The laws of a link's parameters, 1 to 12 (JESD204B.01 clause 5.1, transport layer, and 8.3, link
-- configuration; the formulas for F and all limits are this project's own).
-- Code: the first broken law is sought in order, with early returns.
use Rattle.std.specs.Prelude.{ℕ, ◌+◌, ◌-◌, ◌*◌, ◌/◌, ◌%◌, ◌==◌, ◌&&◌, ◌||◌, nat_le, min, Bool, true, false, List, [], ◌∷◌, Option, Some, None, if◌then◌else◌}
use Rattle.link_params.specs.declared.fields.Params.{Params}
use Rattle.link_params.specs.declared.fields.Mode.{Mode}
use Rattle.link_params.specs.declared.fields.Mode.TheVariants.{B, CCrc, CFec}

-- the least whole number that is not below a/b
abbrev pub ceil : ℕ → ℕ → ℕ
ceil a b = (a + (b - 1)) / b

abbrev pub is_within : ℕ → ℕ → ℕ → Bool
is_within low high x = nat_le low x && nat_le x high

-- true where the lanes are 8b/10b lanes
abbrev pub is_b : Mode → Bool
is_b B = true
is_b CCrc = false
is_b CFec = false

-- F: the octets that a lane's words take, or with HD all words together
abbrev pub due_octets : Params → ℕ
due_octets p = if p.hd then ceil (p.m * p.s * p.np) (8 * p.l) else ceil (p.m * p.s / p.l * p.np) 8

-- K and E: a multiframe has at least 17 octets and at most 1,024; 64b/66b lanes have no K, and are always scrambled
abbrev pub has_period : Params → Bool
has_period p = if is_b p.mode
    then (p.e == 0) && is_within (ceil 17 p.f) (min 32 (1024 / p.f)) p.k
    else (p.k == 0) && p.scr && is_within 1 32 p.e

-- each law with its number
abbrev pub laws : Params → List (ℕ × Bool)
laws p =
    (1, is_within 1 32 p.l)
    ∷ (2, is_within 1 256 p.m)
    ∷ (3, is_within 1 256 p.f)
    ∷ (4, is_within 1 32 p.s)
    ∷ (5, is_within 1 32 p.n)
    ∷ (6, is_within 1 32 p.np)
    ∷ (7, nat_le p.cs 3)
    ∷ (8, nat_le (p.n + p.cs) p.np)
    ∷ (9, p.hd || (p.m * p.s % p.l == 0))
    ∷ (10, p.f == due_octets p)
    ∷ (11, has_period p)
    ∷ (12, is_b p.mode || (256 * p.e % p.f == 0))
    ∷ []

-- the number of the first law that does not hold
abbrev pub first_broken : List (ℕ × Bool) → Option ℕ
first_broken [] = None
first_broken (law ∷ more) = if law.1 then first_broken more else Some law.0

-- the first broken law of 1 to 12
abbrev pub broken_law : Params → Option ℕ
broken_law p = first_broken (laws p)
