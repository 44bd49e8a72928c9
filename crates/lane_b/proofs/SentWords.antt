-- One tick more.
use Rattle.std.proofs.Common.{◌≡◌, ℕ, Bool, if◌then◌else◌, List, [], ◌∷◌, ◌++◌, Option, Some, None, unwrap_or, refl, sym, ◌∙◌, ap, subst, append_assoc}
use Rattle.link_params.specs.declared.fields.Params.{Params}
use Rattle.link_params.specs.Lanes.{Handed}
use Rattle.link_params.specs.declared.orders.TxOrder.{TxOrder}
use Rattle.link_params.specs.declared.orders.TxOrder.TheVariants.{Comma, Ilas, Data as DataOrder, Silent, Block}
use Rattle.code_8b10b.specs.declared.character.Rd.{Rd}
use Rattle.code_8b10b.specs.declared.character.Rd.TheVariants.{Minus}
use Rattle.code_8b10b.specs.declared.character.Char.{Char}
use Rattle.code_8b10b.specs.declared.character.Char.TheVariants.{Control}
use Rattle.code_8b10b.specs.Code.{after, spelling}
use Rattle.lane_b.specs.Sent.{char_of, chars_after, data_char, data_octets, going_on, spelled, sent_words}
use Rattle.lane_b.specs.kept.Senders.{MayGoOn, Sender, place_after_order, rd_after}

pub data_octets-more : (hs : List Handed) (h : Handed) (octets : List ℕ) → data_octets octets (hs ++ h ∷ []) ≡ going_on (data_octets octets hs) h
unfolding data_octets
data_octets-more [] h octets = refl
data_octets-more (x ∷ hs) h octets = data_octets-more hs h (going_on octets x)

chars_after-more : (hs : List Handed) (h : Handed) (p : Params) (lane : ℕ) (before : List Handed)
    → chars_after p lane before (hs ++ h ∷ []) ≡ chars_after p lane before hs ++ char_of p lane (before ++ (hs ++ h ∷ [])) h.order ∷ []
unfolding chars_after
chars_after-more [] h p lane before = refl
chars_after-more (x ∷ hs) h p lane before =
    let all : (before ++ x ∷ []) ++ (hs ++ h ∷ []) ≡ before ++ (x ∷ (hs ++ h ∷ [])) = append_assoc before (x ∷ []) (hs ++ h ∷ []) in
    let first : Char = char_of p lane (before ++ x ∷ []) x.order in
    let front : List Char = chars_after p lane (before ++ x ∷ []) hs in
    ap {B = List Char} (λ cs. first ∷ cs) (chars_after-more hs h p lane (before ++ x ∷ []) ∙ ap (λ (ts : List Handed). front ++ char_of p lane ts h.order ∷ []) all)

spelled-more : (cs : List Char) (c : Char) (rd : Rd) → spelled rd (cs ++ c ∷ []) ≡ spelled rd cs ++ unwrap_or (spelling (rd_after rd (spelled rd cs)) c) 0 ∷ []
unfolding spelled rd_after
spelled-more [] c rd = refl
spelled-more (x ∷ cs) c rd =
    let w : ℕ = unwrap_or (spelling rd x) 0 in
    ap {B = List ℕ} (λ ws. w ∷ ws) (spelled-more cs c (after rd w))

pub rd_after-more : (ws : List ℕ) (w : ℕ) (rd : Rd) → rd_after rd (ws ++ w ∷ []) ≡ after (rd_after rd ws) w
unfolding rd_after
rd_after-more [] w rd = refl
rd_after-more (x ∷ ws) w rd = rd_after-more ws w (after rd x)

pub sent_words-none : (p : Params) (lane : ℕ) → sent_words p lane [] ≡ []
unfolding sent_words chars_after spelled
sent_words-none p lane = refl

-- the word of one tick more
pub sent_words-more : (p : Params) (lane : ℕ) (handed : List Handed) (h : Handed) (c : Char) (rd : Rd) (w : ℕ) → rd ≡ rd_after Minus (sent_words p lane handed)
    → c ≡ char_of p lane (handed ++ h ∷ []) h.order → spelling rd c ≡ Some w → sent_words p lane (handed ++ h ∷ []) ≡ sent_words p lane handed ++ w ∷ []
unfolding sent_words
sent_words-more p lane handed h c rd w chain due spells =
    let front : List Char = chars_after p lane [] handed in
    let d : Char = char_of p lane (handed ++ h ∷ []) h.order in
    let last : spelling (rd_after Minus (spelled Minus front)) d ≡ Some w = rw (← chain, ← due) spells in
    ap (spelled Minus) (chars_after-more handed h p lane []) ∙ spelled-more front d Minus
    ∙ ap (λ (o : Option ℕ). spelled Minus front ++ unwrap_or o 0 ∷ []) last

-- ---- the character of one tick more

pub data_char-more : (p : Params) (lane : ℕ) (handed : List Handed) (x o : ℕ) (first : Bool)
    → data_char p (if first then o ∷ [] else data_octets [] handed ++ o ∷ []) ≡ char_of p lane (handed ++ (record { order = DataOrder x first; octets = o }) ∷ []) (DataOrder x first)
data_char-more p lane handed x o first = ap (data_char p) (sym (data_octets-more handed (record { order = DataOrder x first; octets = o }) []))

pub goes_on-more : (now : Sender) (p : Params) (handed : List Handed) (x o : ℕ) (first : Bool) (next : Option ℕ)
    → MayGoOn now p (if first then o ∷ [] else data_octets [] handed ++ o ∷ []) next
    → MayGoOn now p (data_octets [] (handed ++ (record { order = DataOrder x first; octets = o }) ∷ [])) next
goes_on-more now p handed x o first next h =
    let P : List ℕ → Type 0 = λ os. MayGoOn now p os next in
    subst P (sym (data_octets-more handed (record { order = DataOrder x first; octets = o }) [])) h

-- an order that is neither of the sequence nor data sends /K/
pub other-char : (p : Params) (lane : ℕ) (handed : List Handed) (order : TxOrder) → ((x : ℕ) → order ≡ Ilas x → ⊥) → ((x : ℕ) (first : Bool) → order ≡ DataOrder x first → ⊥)
    → Control 0xBC ≡ char_of p lane handed order
other-char p lane handed Comma ilas data_at = refl
other-char p lane handed (Ilas x) ilas data_at = absurd (ilas x refl)
other-char p lane handed (DataOrder x first) ilas data_at = absurd (data_at x first refl)
other-char p lane handed Silent ilas data_at = refl
other-char p lane handed (Block x first) ilas data_at = refl

pub other-next : (p : Params) (order : TxOrder) → ((x : ℕ) → order ≡ Ilas x → ⊥) → ((x : ℕ) (first : Bool) → order ≡ DataOrder x first → ⊥) → None ≡ place_after_order p order
other-next p Comma ilas data_at = refl
other-next p (Ilas x) ilas data_at = absurd (ilas x refl)
other-next p (DataOrder x first) ilas data_at = absurd (data_at x first refl)
other-next p Silent ilas data_at = refl
other-next p (Block x first) ilas data_at = refl
