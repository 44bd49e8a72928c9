-- The configuration octets of a lane (JESD204B.01 clause 8.3, link configuration data): nineteen
-- fields in fourteen octets.
-- Code: each octet written out.
use Rattle.std.specs.Prelude.{ℕ, ◌+◌, ◌-◌, ◌*◌, ◌/◌, ◌%◌, ◌^◌, ◌==◌, Bool, not, ◌||◌, if◌then◌else◌, List, [], ◌∷◌, map, take, sum, slice_index, bit_and, Option}
use Rattle.jesd_base.specs.Search.{first_from}
use Rattle.link_params.specs.declared.fields.Params.{Params}
use Rattle.link_params.specs.declared.config.Config.{Config}

-- a field: its octet, its lowest bit, and its number of bits
pub record Field : Type 0 where
  pub octet : ℕ
  pub low : ℕ
  pub bits : ℕ

abbrev pub field : ℕ → ℕ → ℕ → Field
field o l b = record { octet = o; low = l; bits = b }

-- the nineteen fields
unfoldable pub fields : List Field
fields =
    field 0 0 8  -- DID
    ∷ field 1 4 4  -- ADJCNT
    ∷ field 1 0 4  -- BID
    ∷ field 2 6 1  -- ADJDIR
    ∷ field 2 5 1  -- PHADJ
    ∷ field 2 0 5  -- LID
    ∷ field 3 7 1  -- SCR
    ∷ field 3 0 5  -- L - 1
    ∷ field 4 0 8  -- F - 1
    ∷ field 5 0 5  -- K - 1
    ∷ field 6 0 8  -- M - 1
    ∷ field 7 6 2  -- CS
    ∷ field 7 0 5  -- N - 1
    ∷ field 8 5 3  -- SUBCLASSV
    ∷ field 8 0 5  -- N' - 1
    ∷ field 9 5 3  -- JESDV
    ∷ field 9 0 5  -- S - 1
    ∷ field 10 7 1  -- HD
    ∷ field 10 0 5  -- CF
    ∷ []

abbrev pub one_if : Bool → ℕ
one_if b = if b then 1 else 0

-- what a lane of a link sends in them
unfoldable pub sent_values : Params → ℕ → List ℕ
sent_values p lane = 0 ∷ 0 ∷ 0 ∷ 0 ∷ 0 ∷ lane ∷ one_if p.scr ∷ (p.l - 1) ∷ (p.f - 1) ∷ (p.k - 1) ∷ (p.m - 1) ∷ p.cs ∷ (p.n - 1)
    ∷ 1 ∷ (p.np - 1) ∷ 1 ∷ (p.s - 1) ∷ one_if p.hd ∷ 0 ∷ []

-- octet i of these values: the fields of that octet at their bits, and 0 at bits that no field names
abbrev pub octet_of : List Field → List ℕ → ℕ → ℕ
octet_of [] vs i = 0
octet_of (f ∷ fs) [] i = 0
octet_of (f ∷ fs) (v ∷ vs) i = (if f.octet == i then v * 2 ^ f.low else 0) + octet_of fs vs i

-- the octets 0 to 12, and octet 13, which is the sum of the fields modulo 256
unfoldable pub config_octets : Params → ℕ → List ℕ
config_octets p lane = let vs = sent_values p lane in
    octet_of fields vs 0 ∷ octet_of fields vs 1 ∷ octet_of fields vs 2 ∷ octet_of fields vs 3 ∷ octet_of fields vs 4
    ∷ octet_of fields vs 5 ∷ octet_of fields vs 6 ∷ octet_of fields vs 7 ∷ octet_of fields vs 8 ∷ octet_of fields vs 9
    ∷ octet_of fields vs 10 ∷ octet_of fields vs 11 ∷ octet_of fields vs 12 ∷ (sum vs % 256) ∷ []

-- the value of a field in octets that were read
abbrev pub read_field : List ℕ → Field → ℕ
read_field octets f = slice_index octets f.octet / 2 ^ f.low % 2 ^ f.bits

-- the values that were read, in the order of the fields
unfoldable pub read_values : List ℕ → List ℕ
read_values octets = map (read_field octets) fields

-- octet 13 is the sum of the fields, or of the octets 0 to 12, that were read
unfoldable pub has_sum : List ℕ → Bool
has_sum octets = (slice_index octets 13 == sum (read_values octets) % 256) || (slice_index octets 13 == sum (take 13 octets) % 256)

-- the values by their names
unfoldable pub config_of : List ℕ → Config
config_of vs = record {
  did = slice_index vs 0;
  adjcnt = slice_index vs 1;
  bid = slice_index vs 2;
  adjdir = slice_index vs 3;
  phadj = slice_index vs 4;
  lid = slice_index vs 5;
  scr = slice_index vs 6;
  l = slice_index vs 7;
  f = slice_index vs 8;
  k = slice_index vs 9;
  m = slice_index vs 10;
  cs = slice_index vs 11;
  n = slice_index vs 12;
  subclass = slice_index vs 13;
  np = slice_index vs 14;
  version = slice_index vs 15;
  s = slice_index vs 16;
  hd = slice_index vs 17;
  cf = slice_index vs 18;
}

-- the compared bits of the octets 0 to 12
unfoldable pub masks : List ℕ
masks = 0 ∷ 0 ∷ 0x1F ∷ 0x9F ∷ 0xFF ∷ 0x1F ∷ 0xFF ∷ 0xDF ∷ 0xFF ∷ 0x1F ∷ 0x9F ∷ 0 ∷ 0 ∷ []

-- octet i, read as o, differs from the lane's in its compared bits
unfoldable pub differs : Params → ℕ → ℕ → ℕ → Bool
differs p lane i o = let mask = slice_index masks i in
    not (bit_and o mask == bit_and (slice_index (config_octets p lane) i) mask)

-- the least octet of 0 to 12 that differs
abbrev pub first_difference : Params → ℕ → List ℕ → Option ℕ
first_difference p lane octets = first_from (λ i. differs p lane i (slice_index octets i)) 13 0
