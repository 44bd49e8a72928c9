-- What a tick does to a transmitter lane.
use Rattle.std.proofs.Common.{◌≡◌, ◌≢◌, ℕ, zero, suc, ◌+◌, ◌-◌, ◌*◌, ◌/◌, ◌%◌, ◌<◌, ◌≤◌, ◌==◌, Bool, true, false, if◌then◌else◌, List, [], ◌∷◌, ◌++◌, length, take, drop, get_or, set, Option, Some, None, refl, sym, ◌∙◌, ap, ap₂, subst, inl, inr, arith, mul_assoc, mul_comm, eq-eqb, ne_eqb}
use Rattle.std.proofs.Math.Nat.{mod-add-mod, mod-lt, zero-mod}
use Rattle.std.proofs.lemmas.Nat.{div-add-mod', mod-mul-add}
use Rattle.std.proofs.lemmas.Bool.{cases_eq}
use Rattle.std.proofs.lemmas.List.{length-append}
use Rattle.std.proofs.Math.Seq.{take_all, drop-append-le, take-suc-set, drop-length}
use Rattle.std.specs.List.{flat_map}
use Rattle.std.specs.Int.{bit_at}
use Rattle.jesd_base.specs.Bits.{bits, value}
use Rattle.jesd_base.proofs.BitLemmas.{bits_length, bits_of_value}
use Rattle.link_params.specs.declared.fields.Mode.{Mode}
use Rattle.link_params.specs.declared.fields.Mode.TheVariants.{B, CCrc, CFec}
use Rattle.link_params.specs.declared.fields.Params.{Params}
use Rattle.link_params.specs.Laws.{broken_law, is_b}
use Rattle.link_params.specs.declared.orders.TxOrder.{TxOrder}
use Rattle.link_params.specs.declared.orders.TxOrder.TheVariants.{Comma, Ilas, Data, Silent, Block}
use Rattle.link_params.proofs.LawFacts.{legal_sizes}
use Rattle.link_params.specs.Numbers.{period}
use Rattle.lane_scramble.specs.Scrambling.{scrambled}
use Rattle.lane_scramble.specs.kept.Scramblers.{HasScrambled58}
use Rattle.block_66b.specs.Blocks.{block, packed}
use Rattle.fire_fec.specs.Corrects.{payload_bits}
use Rattle.fire_fec.proofs.Flipping.{payload-length}
use Rattle.multiblock.specs.SyncWords.{sync_word}
use Rattle.link_params.specs.Lanes.{Handed}
use Rattle.lane_c.specs.Sent.{blocks_of, check, is_block, is_end, octets_sent, part_of, payload_of, sent_c, word_of}
use Rattle.lane_c.specs.kept.Senders.{Follows, FollowsBlock, GoesOn, HasSent, IsIn, IsReady, MayBeSilent, MayGoOn, Sender, place_after_order}
use Rattle.lane_c.proofs.SentBlocks.{blocks_of-more, length-payload, octets-more, octets_sent-from, sent-block, sent-silent, word_of-stays}

-- ---- bits

pub get_or-bits : (n x i : ℕ) → i < n → get_or (bits n x) i false ≡ (bit_at x (n - suc i) == 1)
unfolding bits
get_or-bits zero x i lt = absurd (omega arith)
get_or-bits (suc n) x zero lt = let e : suc n - 1 ≡ n = omega arith in rw e refl
get_or-bits (suc n) x (suc i) lt = let e : suc n - suc (suc i) ≡ n - suc i = omega arith in
    rw e (get_or-bits n x i (omega arith))

pub block-length : (s : Bool) (y : ℕ) → length (block s (bits 64 y)) ≡ 66
block-length true y = ap (λ n. suc (suc n)) (bits_length 64 y)
block-length false y = ap (λ n. suc (suc n)) (bits_length 64 y)

pub bits-packed : (s : Bool) (y : ℕ) → bits 66 (packed s y) ≡ block s (bits 64 y)
bits-packed s y = ap (λ n. bits n (packed s y)) (sym (block-length s y))
    ∙ bits_of_value (block s (bits 64 y))

-- ---- places

period-of : (m : Mode) (x y : ℕ) → m ≢ B → (if is_b m then x else y) ≡ y
period-of B x y not_b = absurd (not_b refl)
period-of CCrc x y not_b = refl
period-of CFec x y not_b = refl

pub period-c : (p : Params) → p.mode ≢ B → period p ≡ 32 * p.e
period-c p not_b = period-of p.mode (p.f * p.k) (32 * p.e) not_b

-- a place, and the number of blocks before it
pub mod-both : (n e : ℕ) → (n % (32 * e)) % 32 ≡ n % 32
mod-both n e =
    let q : ℕ = n / (32 * e) in
    let whole : q * (32 * e) + n % (32 * e) ≡ n = div-add-mod' n (32 * e) in
    let regroup : q * (32 * e) ≡ 32 * (q * e) = mul_comm q (32 * e) ∙ mul_assoc 32 e q
    ∙ ap (λ k. 32 * k) (mul_comm e q) in
    omega (arith, whole, regroup)

-- the first places of multiblocks
pub mod-multiblock : (k e : ℕ) → 1 ≤ e → (32 * k) % (32 * e) ≡ 32 * (k % e)
mod-multiblock k e some =
    let q : ℕ = k / e in
    let low : k % e < e = mod-lt k some in
    let whole : q * e + k % e ≡ k = div-add-mod' k e in
    let regroup : q * (32 * e) ≡ 32 * (q * e) = mul_comm q (32 * e) ∙ mul_assoc 32 e q
    ∙ ap (λ n. 32 * n) (mul_comm e q) in
    let parts : 32 * k ≡ q * (32 * e) + 32 * (k % e) = omega (arith, whole, regroup) in
    ap (λ n. n % (32 * e)) parts ∙ mod-mul-add q (32 * e) (32 * (k % e)) (omega (arith, low))

-- the last multiblock of an extended one
pub ends-at : (e k x : ℕ) → 1 ≤ e → x ≡ (32 * k) % (32 * e) → (x + 32 == 32 * e) ≡ (k % e == e - 1)
ends-at e k x some at =
    let first : x ≡ 32 * (k % e) = at ∙ mod-multiblock k e some in
    elim (cases_eq (k % e) (e - 1)) [
      | inl same ↦ eq-eqb (x + 32) (32 * e) (omega (arith, same, first))
          ∙ sym (eq-eqb (k % e) (e - 1) same)
      | inr apart ↦
          let low : k % e < e = mod-lt k some in
          ne_eqb (x + 32) (32 * e) (λ end. apart (omega (arith, end, first, low)))
          ∙ sym (ne_eqb (k % e) (e - 1) apart)
    ]

-- ---- a multiblock begins

pub ready-first : (now : Sender) (p : Params) (w : ℕ) → p.mode ≢ B → 1 ≤ p.e
    → HasScrambled58 now.scrambler [] → bits 32 w ≡ sync_word p.mode 0 0 (0 + 32 == period p)
    → IsReady (record now { word = w }) p [] 0
unfolding word_of scrambled
ready-first now p w not_b some so is =
    let end : (0 + 32 == period p) ≡ is_end p 0 = ap (λ n. 0 + 32 == n) (period-c p not_b)
    ∙ ends-at p.e 0 0 some (sym (zero-mod (32 * p.e))) in
    record {
      place = sym (zero-mod (period p));
      scrambled_so = so;
      multiblock = 0;
      blocks = 0;
      room = omega arith;
      inside = record { count = refl; sync = is ∙ ap (sync_word p.mode 0 0) end; blocks = refl };
    }

-- all payloads of the multiblock that ended
whole-part : (now : Sender) (p : Params) (octets : List ℕ) (j : ℕ) → length now.payload ≡ 32
    → IsIn now.payload now.word p octets j 32 → part_of (payload_of octets) j
    ≡ payload_bits now.payload
whole-part now p octets j size h =
    let l : length (payload_bits now.payload) ≡ 64 * length now.payload =
    payload-length now.payload in
    ap (take 2048) (sym h.blocks ∙ ap payload_bits (take_all 32 now.payload (omega (arith, size))))
    ∙ take_all 2048 (payload_bits now.payload) (omega (arith, l, size))

pub ready-next : (now : Sender) (p : Params) (octets : List ℕ) (x w : ℕ) → p.mode ≢ B → 1 ≤ p.e
    → length now.payload ≡ 32 → GoesOn now p octets x → x % 32 ≡ 0
    → bits 32 w ≡ sync_word p.mode (value (check p.mode (payload_bits now.payload))) 0
    (x + 32 == period p) → IsReady (record now { word = w }) p octets x
unfolding word_of
ready-next now p octets x w not_b some size h begins is =
    let n : ℕ = length octets in
    let j : ℕ = h.multiblock in
    let at : x ≡ n % (32 * p.e) = h.place ∙ ap (λ k. n % k) (period-c p not_b) in
    let low : n % 32 ≡ 0 = sym (mod-both n p.e) ∙ ap (λ k. k % 32) (sym at) ∙ begins in
    let whole : h.blocks ≡ 32 = omega (arith, low, h.inside.count, h.some, h.most) in
    let full : IsIn now.payload now.word p octets j 32 = rw (← whole) h.inside in
    let count : n ≡ 32 * suc j + 0 = omega (arith, full.count) in
    let count_all : n ≡ 32 * suc j = omega (arith, full.count) in
    let end : (x + 32 == period p) ≡ is_end p (suc j) = ap (λ k. x + 32 == k) (period-c p not_b)
    ∙ ends-at p.e (suc j) x some (at ∙ ap (λ k. k % (32 * p.e)) count_all) in
    let c = whole-part now p octets j size full in
    let l : length (payload_of octets) ≡ 2048 * suc j = length-payload octets
    ∙ omega (arith, count_all) in
    record {
      place = h.place;
      scrambled_so = h.scrambled_so;
      multiblock = suc j;
      blocks = 0;
      room = omega arith;
      inside = record {
        count = count;
        sync = is ∙ ap₂ (λ m b. sync_word p.mode (value (check p.mode m)) 0 b) (sym c) end;
        blocks = sym (ap (λ k. drop k (payload_of octets)) (sym l)
            ∙ drop-length (payload_of octets));
      };
    }

pub some-multiblocks : (p : Params) → broken_law p ≡ None → p.mode ≢ B → 1 ≤ p.e
some-multiblocks p legal not_b = let low : 17 ≤ period p = (legal_sizes p legal).period_low in
    let e = period-c p not_b in omega (arith, low, e)

-- the check that the sync word carries
abbrev pub check_due : Bool → Sender → Params → ℕ
check_due first now p = if first then 0 else value (check p.mode (payload_bits now.payload))

begun-at : (next : Option ℕ) (now : Sender) (p : Params) (octets : List ℕ) (x w : ℕ) (first : Bool)
    → p.mode ≢ B → 1 ≤ p.e → length now.payload ≡ 32 → FollowsBlock next x first → x % 32 ≡ 0
    → MayGoOn now p octets next → bits 32 w ≡ sync_word p.mode (check_due first now p) 0
    (x + 32 == period p) → IsReady (record now { word = w }) p octets x
begun-at None now p octets x w first not_b some size follows begins on is =
    let Q : List ℕ → ℕ → Type 0 = λ os y. IsReady (record now { word = w }) p os y in
    let first_is : bits 32 w ≡ sync_word p.mode 0 0 (0 + 32 == period p) =
    rw (follows.0, follows.1) at is in
    rw (on.0, follows.1) (ready-first now p w not_b some on.1 first_is)
begun-at (Some n) now p octets x w first not_b some size follows begins on is =
    let P : ℕ → Type 0 = λ y. GoesOn now p octets y in
    let next_is : bits 32 w ≡ sync_word p.mode (value (check p.mode (payload_bits now.payload))) 0
    (x + 32 == period p) = rw follows.0 at is in
    ready-next now p octets x w not_b some size (subst P (sym follows.1) on) begins next_is

pub begun : (now : Sender) (p : Params) (octets : List ℕ) (x w : ℕ) (first : Bool) → p.mode ≢ B
    → 1 ≤ p.e → length now.payload ≡ 32 → FollowsBlock now.next x first → x % 32 ≡ 0
    → MayGoOn now p octets now.next → bits 32 w ≡ sync_word p.mode (check_due first now p) 0
    (x + 32 == period p) → IsReady (record now { word = w }) p octets x
begun now p octets x w first not_b some size follows begins on is =
    begun-at now.next now p octets x w first not_b some size follows begins on is

-- it goes on
pub ready-on : (now : Sender) (p : Params) (octets : List ℕ) (x : ℕ) → p.mode ≢ B
    → GoesOn now p octets x → x % 32 ≢ 0 → IsReady now p octets x
ready-on now p octets x not_b h inside =
    let n : ℕ = length octets in
    let at : x ≡ n % (32 * p.e) = h.place ∙ ap (λ k. n % k) (period-c p not_b) in
    let low : x % 32 ≡ n % 32 = ap (λ k. k % 32) at ∙ mod-both n p.e in
    let room : h.blocks < 32 = elim (cases_eq h.blocks 32) [
      | inl same ↦ absurd (inside (omega (arith, low, same, h.inside.count)))
      | inr apart ↦ omega (arith, apart, h.most)
    ] in
    record {
      place = h.place;
      scrambled_so = h.scrambled_so;
      multiblock = h.multiblock;
      blocks =
          h.blocks;
      room = room;
      inside = h.inside;
    }

ready-at : (next : Option ℕ) (now : Sender) (p : Params) (octets : List ℕ) (x : ℕ) (first : Bool)
    → p.mode ≢ B → FollowsBlock next x first → x % 32 ≢ 0 → MayGoOn now p octets next
    → IsReady now p octets x
ready-at None now p octets x first not_b follows inside on =
    absurd (inside (omega (arith, follows.1)))
ready-at (Some n) now p octets x first not_b follows inside on = let P : ℕ → Type 0 =
    λ y. GoesOn now p octets y in ready-on now p octets x not_b (subst P (sym follows.1) on) inside

pub ready-inside : (now : Sender) (p : Params) (octets : List ℕ) (x : ℕ) (first : Bool) → p.mode ≢ B
    → FollowsBlock now.next x first → x % 32 ≢ 0 → MayGoOn now p octets now.next
    → IsReady now p octets x
ready-inside now p octets x first not_b follows inside on =
    ready-at now.next now p octets x first not_b follows inside on

-- ---- a block is sent

pub block-due : (now : Sender) (p : Params) (octets : List ℕ) (x o y r : ℕ) (s : Bool) → p.mode ≢ B
    → IsReady now p octets x
    → payload_of (octets ++ o ∷ []) ≡ payload_of octets ++ bits 64 y
    → s ≡ get_or (bits 32 now.word) (x % 32) false → r ≡ packed s y
    → blocks_of p (octets ++ o ∷ []) ≡ blocks_of p octets ++ bits 66 r ∷ []
block-due now p octets x o y r s not_b h more bit_is is =
    let n : ℕ = length octets in
    let at : x ≡ n % (32 * p.e) = h.place ∙ ap (λ k. n % k) (period-c p not_b) in
    let low : x % 32 ≡ n % 32 = ap (λ k. k % 32) at ∙ mod-both n p.e in
    let j : n / 32 ≡ h.multiblock = omega (arith, h.inside.count, h.room) in
    let b : get_or (word_of p (payload_of octets) (n / 32)) (n % 32) false ≡ s =
    ap₂ (λ w i. get_or w i false) (ap (word_of p (payload_of octets)) j ∙ sym h.inside.sync)
    (sym low) ∙ sym bit_is in
    blocks_of-more p octets o y not_b more
    ∙ ap (λ w. blocks_of p octets ++ w ∷ []) (ap (λ t. block t (bits 64 y)) b
    ∙ sym (bits-packed s y) ∙ ap (bits 66) (sym is))

pub goes-on : (now new : Sender) (p : Params) (octets : List ℕ) (x o y : ℕ) → p.mode ≢ B
    → length now.payload ≡ 32 → IsReady now p octets x
    → payload_of (octets ++ o ∷ []) ≡ payload_of octets ++ bits 64 y
    → HasScrambled58 new.scrambler (flat_map (bits 64) octets ++ bits 64 o)
    → new.payload ≡ set now.payload (x % 32) y → new.word ≡ now.word
    → GoesOn new p (octets ++ o ∷ []) (suc x % period p)
goes-on now new p octets x o y not_b size h more so payload word =
    let n : ℕ = length octets in
    let j : ℕ = h.multiblock in
    let m : ℕ = h.blocks in
    let P : List Bool → Type 0 = λ taken. HasScrambled58 new.scrambler taken in
    let at : x ≡ n % (32 * p.e) = h.place ∙ ap (λ k. n % k) (period-c p not_b) in
    let low : x % 32 ≡ m = ap (λ k. k % 32) at ∙ mod-both n p.e
    ∙ omega (arith, h.inside.count, h.room) in
    let count : length (octets ++ o ∷ []) ≡ suc n = length-append octets (o ∷ []) ∙ omega arith in
    let next : suc x ≡ n % period p + 1 = omega (arith, h.place) in
    let l : length (payload_of octets) ≡ 64 * n = length-payload octets in
    let front : payload_bits (take (suc m) new.payload) ≡ payload_bits (take m now.payload)
    ++ bits 64 y =
    ap (λ ws. payload_bits (take (suc m) ws)) (payload ∙ ap (λ k. set now.payload k y) low)
    ∙ ap payload_bits (take-suc-set now.payload m y (omega (arith, size, h.room)))
    ∙ octets-more (take m now.payload) y in
    let back : drop (2048 * j) (payload_of (octets ++ o ∷ [])) ≡ drop (2048 * j) (payload_of octets)
    ++ bits 64 y =
    ap (drop (2048 * j)) more ∙ drop-append-le (2048 * j) (payload_of octets) (bits 64 y)
    (omega (arith, l, h.inside.count)) in
    record {
      place = ap (λ k. k % period p) next ∙ mod-add-mod n (period p) 1
          ∙ ap (λ k. k % period p) (omega (arith, count));
      scrambled_so = subst P (sym (octets-more octets o)) so;
      multiblock = j;
      blocks = suc m;
      some = omega arith;
      most = omega (arith, h.room);
      inside = record {
        count = count ∙ omega (arith, h.inside.count);
        sync = ap (bits 32) word ∙ h.inside.sync ∙ sym (ap (λ zs. word_of p zs j) more
            ∙ word_of-stays p (payload_of octets) (bits 64 y) j (omega (arith, l, h.inside.count)));
        blocks = front ∙ ap (λ r. r ++ bits 64 y) h.inside.blocks ∙ sym back;
      };
    }

-- ---- a tick

pub tick-block : (now : Sender) (p : Params) (lane : ℕ) (handed : List Handed) (h : Handed) (r : ℕ)
    → is_block h.order ≡ true → HasSent now p handed
    → (MayGoOn now now.params (octets_sent handed) now.next
    → blocks_of now.params (octets_sent handed ++ h.octets ∷ [])
    ≡ blocks_of now.params (octets_sent handed) ++ bits 66 r ∷ [])
    → sent_c p lane (handed ++ h ∷ []) ≡ sent_c p lane handed ++ bits 66 r ∷ []
tick-block now p lane handed h r is has due =
    let all : List ℕ = octets_sent handed in
    let P : Params → Type 0 = λ q. MayGoOn now q all now.next in
    let Q : Params → Type 0 = λ q. blocks_of q (all ++ h.octets ∷ []) ≡ blocks_of q all
    ++ bits 66 r ∷ [] in
    (sent-block p lane handed h r is (subst Q has.params
    (due (subst P (sym has.params) has.goes_on)))).1

pub tick-sent : (now new : Sender) (p : Params) (handed : List Handed) (h : Handed)
    → is_block h.order ≡ true → HasSent now p handed
    → new.params ≡ now.params → (x : ℕ) → new.next ≡ Some x
    → (MayGoOn now now.params (octets_sent handed) now.next
    → GoesOn new now.params (octets_sent handed ++ h.octets ∷ []) x)
    → HasSent new p (handed ++ h ∷ [])
tick-sent now new p handed h is has same x next on =
    let all : List ℕ = octets_sent handed in
    let P : Params → Type 0 = λ q. MayGoOn now q all now.next in
    let Q : Params → Type 0 = λ q. GoesOn new q (all ++ h.octets ∷ []) x in
    let go : GoesOn new p (all ++ h.octets ∷ []) x = subst Q has.params
    (on (subst P (sym has.params) has.goes_on)) in
    let R : Option ℕ → Type 0 = λ o. MayGoOn new p (all ++ h.octets ∷ []) o in
    let S : List ℕ → Type 0 = λ os. MayGoOn new p os new.next in
    record {
      params = same ∙ has.params;
      goes_on = subst S (sym (octets_sent-from handed h is))
          (subst R (sym next) go);
    }

silent-at : (next : Option ℕ) (now : Sender) (p : Params) (octets : List ℕ) → MayBeSilent next
    → MayGoOn now p octets next → octets ≡ []
silent-at None now p octets may on = on.0
silent-at (Some x) now p octets may on = absurd may

silent-on : (next : Option ℕ) (now : Sender) (p : Params) (octets more : List ℕ) → MayBeSilent next
    → MayGoOn now p octets next → more ≡ [] → MayGoOn now p more next
silent-on None now p octets more may on none = (none, on.1)
silent-on (Some x) now p octets more may on none = absurd may

silent-next : (next : Option ℕ) → MayBeSilent next → next ≡ None
silent-next None may = refl
silent-next (Some x) may = absurd may

-- what a silent tick does
pub record IsSilent (now : Sender) (order : TxOrder) (o : ℕ) : Type 0 where
  pub bits : (p : Params) (lane : ℕ) (handed : List Handed) → HasSent now p handed
      → sent_c p lane (handed ++ (record { order = order; octets = o }) ∷ []) ≡ sent_c p lane handed
      ++ bits 66 0 ∷ []
  pub sent : (p : Params) (handed : List Handed) → HasSent now p handed
      → HasSent now p (handed ++ (record { order = order; octets = o }) ∷ [])
  pub next : now.next ≡ place_after_order now.params order

silent-of : (now : Sender) (order : TxOrder) (o : ℕ) → is_block order ≡ false
    → None ≡ place_after_order now.params order → MayBeSilent now.next → IsSilent now order o
silent-of now order o silent none may = record {
  bits = λ p lane handed h. (sent-silent p lane handed (record { order = order; octets = o }) silent
      (silent-at now.next now p (octets_sent handed) may h.goes_on)).1;
  sent = λ p handed h. record {
    params = h.params;
    goes_on = silent-on now.next now p (octets_sent handed) _ may h.goes_on
        (sent-silent p 0 handed (record { order = order; octets = o }) silent
        (silent-at now.next now p (octets_sent handed) may h.goes_on)).0;
  };
  next = silent-next now.next may ∙ none;
}

pub tick-silent : (now : Sender) (order : TxOrder) (o : ℕ) → Follows now.next order
    → ((x : ℕ) (first : Bool) → order ≡ Block x first → ⊥) → IsSilent now order o
tick-silent now Comma o follows other = absurd follows
tick-silent now (Ilas x) o follows other = absurd follows
tick-silent now (Data x first) o follows other = absurd follows
tick-silent now Silent o follows other = silent-of now Silent o refl refl follows
tick-silent now (Block x first) o follows other = absurd (other x first refl)
