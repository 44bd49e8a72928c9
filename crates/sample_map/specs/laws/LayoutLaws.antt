-- Laws of the layout.
-- Code: none of this is computed.
use Rattle.std.specs.Prelude.{◌≡◌, ℕ, ◌*◌, ◌<◌, List, None}
use Rattle.link_params.specs.declared.fields.Params.{Params}
use Rattle.link_params.specs.Laws.{broken_law}
use Rattle.sample_map.specs.Layout.{IsFrame, AreWords, place, FitFrame}

-- reading what was laid out gives the words back
abbrev pub ReadsBack : Type 0
ReadsBack = (p : Params) (words octets read : List ℕ) → broken_law p ≡ None → FitFrame p words
    → IsFrame p words octets → AreWords p octets read → read ≡ words

-- each bit of each word has a place within the frame
abbrev pub PlacesFit : Type 0
PlacesFit = (p : Params) (r b : ℕ) → broken_law p ≡ None → r < p.m * p.s → b < p.np → place p r b < 8 * (p.l * p.f)

-- and no two of them have the same
abbrev pub PlacesApart : Type 0
PlacesApart = (p : Params) (r b word bit : ℕ) → broken_law p ≡ None → r < p.m * p.s → b < p.np → word < p.m * p.s → bit < p.np
    → place p r b ≡ place p word bit → (r ≡ word) × (b ≡ bit)
