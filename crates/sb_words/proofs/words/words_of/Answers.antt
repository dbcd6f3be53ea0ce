use Rattle.std.proofs.Common.{◌∙◌, ap, codes, lit<, sym}
use Rattle.std.specs.Borrow.{Bor}
use Rattle.std.specs.Prelude.{Some, is_some, option_map}
use Rattle.clap.specs.Words.{Text, found_of}
use Rattle.clap.proofs.CallerLemmas.{some_of_text}
use Rattle.clap.proofs.WalkLemmas.{first_value-rows, one_text-rows}
use Rattle.sb_words.proofs.ReadLemmas.{flag_read, number_asked, number_there}
use Rattle.sb_words.proofs.words.words_of.Goals as goal

pub unwrap-store-requires : goal.unwrap-store-requires
unwrap-store-requires c =
    some_of_text _ c.get_str.result _ c.get_str.ensures (ap is_some (first_value-rows (found_of c.args.matches.now) (codes "store") ∙ c.requires.store.1))

pub unwrap-requires : goal.unwrap-requires
unwrap-requires c =
    let has = c.requires.pages in
    let read = c.get_one-2.ensures.value has.text (one_text-rows (found_of c.args.matches.now) (codes "pages") ∙ has.is) in
    number_there 32 has c.get_one-2.result read (lit< tt)

pub unwrap-requires-2 : goal.unwrap-requires-2
unwrap-requires-2 c =
    let has = c.requires.log in
    let read = c.get_one-3.ensures.value has.text (one_text-rows (found_of c.args.matches.now) (codes "log") ∙ has.is) in
    number_there 64 has c.get_one-3.result read (lit< tt)

pub unwrap-requires-3 : goal.unwrap-requires-3
unwrap-requires-3 c =
    let has = c.requires.frames in
    let read = c.get_one-4.ensures.value has.text (one_text-rows (found_of c.args.matches.now) (codes "frames") ∙ has.is) in
    number_there 32 has c.get_one-4.result read (lit< tt)

pub returns : goal.returns
returns c =
    let found = found_of c.args.matches.now in
    let page_read = c.get_one-2.ensures.value c.requires.pages.text (one_text-rows found (codes "pages") ∙ c.requires.pages.is) in
    let log_read = c.get_one-3.ensures.value c.requires.log.text (one_text-rows found (codes "log") ∙ c.requires.log.is) in
    let frame_read = c.get_one-4.ensures.value c.requires.frames.text (one_text-rows found (codes "frames") ∙ c.requires.frames.is) in
    let pages = number_asked 32 c.requires.pages c.get_one-2.result _ c.unwrap.ensures page_read (lit< tt) in
    let log = number_asked 64 c.requires.log c.get_one-3.result _ c.unwrap-2.ensures log_read (lit< tt) in
    let frames = number_asked 32 c.requires.frames c.get_one-4.result _ c.unwrap-3.ensures frame_read (lit< tt) in
    let create = flag_read _ _ c.get_one.result (λ none. c.get_one.ensures.none (one_text-rows found (codes "create") ∙ none))
    (λ t some. c.get_one.ensures.value t (one_text-rows found (codes "create") ∙ some)) in
    let text = c.in_ok-from_str.ensures.ok in
    record {
      store = sym (first_value-rows found (codes "store")) ∙ sym c.get_str.ensures ∙ ap (option_map (λ (s : Bor Text). s.now)) c.unwrap-store.ensures ∙ ap Some (sym text ∙ sym c.from_string.ensures);
      create = create ∙ sym c.unwrap_or.ensures;
      pages = pages.0;
      log = log.0;
      frames = frames.0;
      pages_range = (pages.1, pages.2);
      log_range = (log.1, log.2);
      frames_range = (frames.1, frames.2);
    }
