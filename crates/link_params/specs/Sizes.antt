-- What the laws say of sizes: L counts lanes, M converters, F octets, S samples, N and N' bits, and
-- the period ticks.
-- Code: none of this is computed.
use Rattle.std.specs.Prelude.{◌≡◌, ◌≤◌, ◌+◌, ◌*◌, ◌%◌, false, None}
use Rattle.link_params.specs.declared.fields.Params.{Params}
use Rattle.link_params.specs.Laws.{broken_law, due_octets}
use Rattle.link_params.specs.Numbers.{period}

-- legal parameters lie within these limits
pub record AreSizes (p : Params) : Type 0 where
  pub l_low : 1 ≤ p.l
  pub l : p.l ≤ 32
  pub m_low : 1 ≤ p.m
  pub m : p.m ≤ 256
  pub f_low : 1 ≤ p.f
  pub f : p.f ≤ 256
  pub s_low : 1 ≤ p.s
  pub s : p.s ≤ 32
  pub n_low : 1 ≤ p.n
  pub np : p.np ≤ 32
  pub word : p.n + p.cs ≤ p.np
  pub whole_words : p.hd ≡ false → p.m * p.s % p.l ≡ 0
  pub octets : p.f ≡ due_octets p
  pub period_low : 17 ≤ period p
  pub period : period p ≤ 1024

abbrev pub LegalSizes : Type 0
LegalSizes = (p : Params) → broken_law p ≡ None → AreSizes p
