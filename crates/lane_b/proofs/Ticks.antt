-- What a tick sends, by what the lane kept before its character was spelled.
use Rattle.std.proofs.Common.{◌≡◌, ℕ, List, ◌∷◌, [], ◌++◌, Some, option_map, refl, sym, ◌∙◌, ap}
use Rattle.link_params.specs.declared.fields.Params.{Params}
use Rattle.link_params.specs.Lanes.{Handed}
use Rattle.code_8b10b.specs.declared.character.Rd.{Rd}
use Rattle.code_8b10b.specs.declared.character.Rd.TheVariants.{Minus}
use Rattle.code_8b10b.specs.declared.character.Char.{Char}
use Rattle.code_8b10b.specs.Code.{after, spelling}
use Rattle.lane_b.specs.Sent.{char_of, data_octets, sent_words}
use Rattle.lane_b.specs.kept.Senders.{HasSent, IsSameLink, MayGoOn, Sender, rd_after}
use Rattle.lane_b.proofs.NextOctet.{goes_on-same}
use Rattle.lane_b.proofs.SentWords.{rd_after-more, sent_words-more}
use Rattle.lane_b.proofs.Spelled.{encoded, words}

-- the word of a tick
pub tick-word : (old now : Sender) (h : Handed) (c : Char) (q : ℕ × Rd) → IsSameLink old now → Some q ≡ option_map (words now.rd) (spelling now.rd c)
    → (p : Params) (lane : ℕ) (handed : List Handed) → HasSent old p lane handed → c ≡ char_of p lane (handed ++ h ∷ []) h.order
    → sent_words p lane (handed ++ h ∷ []) ≡ sent_words p lane handed ++ q.0 ∷ []
tick-word old now h c q same e p lane handed sent due =
    sent_words-more p lane handed h c now.rd q.0 (same.rd ∙ sent.rd) due (encoded (spelling now.rd c) now.rd q e).word

-- what the lane stands for after a tick
pub tick-sent : (old now : Sender) (h : Handed) (c : Char) (q : ℕ × Rd) → IsSameLink old now → Some q ≡ option_map (words now.rd) (spelling now.rd c)
    → (p : Params) (lane : ℕ) (handed : List Handed) → HasSent old p lane handed → c ≡ char_of p lane (handed ++ h ∷ []) h.order
    → MayGoOn now p (data_octets [] (handed ++ h ∷ [])) now.next → HasSent (record now { rd = q.1 }) p lane (handed ++ h ∷ [])
tick-sent old now h c q same e p lane handed sent due on =
    let all = tick-word old now h c q same e p lane handed sent due in
    let is = encoded (spelling now.rd c) now.rd q e in
    record {
      params = same.params ∙ sent.params;
      of_lane = same.of_lane ∙ sent.of_lane;
      rd = is.disparity ∙ ap (λ (r : Rd). after r q.0) (same.rd ∙ sent.rd) ∙ sym (ap (rd_after Minus) all ∙ rd_after-more (sent_words p lane handed) q.0 Minus);
      data_goes_on = goes_on-same now (record now { rd = q.1 }) p (data_octets [] (handed ++ h ∷ [])) now.next refl refl on;
    }
