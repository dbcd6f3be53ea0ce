use Rattle.std.proofs.Common.{◌≡◌, ◌∙◌, ap, ap₂, codes, refl, true}
use Rattle.std.proofs.lemmas.Result.{IfOk-weaker}
use Rattle.clap.specs.Words.{App, Shape, app_of, new_app, with_rule}
use Rattle.clap.specs.Simple.{app_of_fields, on_top}
use Rattle.sb_words.specs.Words.{create_rule, starburst, store_rule}
use Rattle.sb_words.proofs.CommandLemmas.{frames_rule, log_rule, pages_rule}
use Rattle.sb_words.proofs.command.starburst.Goals as goal

abbrev unnamed : Shape → Shape
unnamed s = record s { no_binary_name = true }

abbrev helpless : Shape → Shape
helpless s = record s { disable_help_flag = true }

abbrev start : App
start = on_top helpless (on_top unnamed (new_app (codes "starburst")))

in_turn : with_rule (with_rule (with_rule (with_rule (with_rule start store_rule) create_rule) pages_rule) log_rule) frames_rule ≡ starburst
unfolding starburst
in_turn = refl

pub returns : goal.returns
returns c =
    let first : app_of c.no_binary_name.result ≡ on_top unnamed (app_of c.new.result) = ap app_of_fields c.no_binary_name.ensures in
    let second : app_of c.disable_help_flag.result ≡ on_top helpless (app_of c.no_binary_name.result) = ap app_of_fields c.disable_help_flag.ensures in
    let started : app_of c.disable_help_flag.result ≡ start = second ∙ ap (on_top helpless) (first ∙ ap (on_top unnamed) c.new.ensures.app) in
    let store = c.in_ok-arg.ensures.shape c.store.ensures.local ∙ ap₂ with_rule started c.store.ensures.rule in
    let create = c.in_ok-arg-2.ensures.shape c.create.ensures.local ∙ ap₂ with_rule store c.create.ensures.rule in
    let with_pages = c.in_ok-arg-3.ensures.shape c.number.ensures.local ∙ ap₂ with_rule create c.number.ensures.rule in
    let with_log = c.in_ok-arg-4.ensures.shape c.number-2.ensures.local ∙ ap₂ with_rule with_pages c.number-2.ensures.rule in
    IfOk-weaker c.arg-5.result _ _
    (λ whole added. added.shape c.number-3.ensures.local ∙ ap₂ with_rule with_log c.number-3.ensures.rule ∙ in_turn) c.arg-5.ensures
