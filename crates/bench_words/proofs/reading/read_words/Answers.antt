use Rattle.std.proofs.Common.{◌∙◌, sym, ap, refl}
use Rattle.std.specs.Prelude.{option_and_then}
use Rattle.bench_words.specs.kept.Clap.{asked_of}
use Rattle.bench_words.proofs.Agrees.{clap_agrees, texts_of}
use Rattle.bench_words.proofs.reading.read_words.Goals as goal

pub returns-in-Some-clause-read : goal.returns-in-Some-clause-read
returns-in-Some-clause-read c =
    sym (clap_agrees _ (texts_of c.args.words.now c.are_texts.ensures)) ∙ ap (option_and_then asked_of) (sym c.in-Ok-Some.ensures) ∙ rw c.in-Ok-Some.field-0-is (sym c.in-Some.ensures)

pub returns-in-None-clause-refused : goal.returns-in-None-clause-refused
returns-in-None-clause-refused c e =
    sym (clap_agrees _ (texts_of c.args.words.now c.are_texts.ensures)) ∙ ap (option_and_then asked_of) (sym c.in-Ok-Some.ensures) ∙ rw c.in-Ok-Some.field-0-is (sym c.in-None.ensures)

pub returns-in-Ok-None-clause-refused : goal.returns-in-Ok-None-clause-refused
returns-in-Ok-None-clause-refused c e =
    sym (clap_agrees _ (texts_of c.args.words.now c.are_texts.ensures)) ∙ ap (option_and_then asked_of) (sym c.in-Ok-None.ensures) ∙ rw c.in-Ok-None.field-0-is refl
