use Rattle.std.proofs.Common.{ℕ, not, slice_get, sym, ap, ◌∙◌, rules, tests}
use Rattle.std.proofs.lemmas.Iterator.{YieldsList-from_slice, YieldsList-from_map}
use Rattle.std.proofs.lemmas.Iterator.Adapters.{option_map_id}
use Rattle.std.proofs.lemmas.Iterator.Consumers.{YieldsList-at, YieldsList-from_filter, nth_from_yields_List}
use Rattle.sb_forms.specs.Fits.{is_empty}
use Rattle.sb_ctx.specs.View.{View, HeldPage, fresh_pages}
use Rattle.sb_ctx.proofs.ctx.Ctx.fresh_given.Goals as goal

pub returns : goal.returns
returns c =
    let held = c.self.inside.held.items in
    sym (option_map_id c.nth.result)
    ∙ nth_from_yields_List c.nth.result _ c.args.i c.nth.ensures.ran (YieldsList-from_map _ (λ (e : ℕ × HeldPage). (e.0, not (is_empty e.1.now))) (YieldsList-at c.map.ensures.source (YieldsList-from_filter _ (λ (e : ℕ × HeldPage). e.1.fresh) (YieldsList-from_slice held cc) c.filter.ensures.closure (λ x r q k. search (rules, tests)))) c.map.ensures.closure (λ x r q k. search (rules, tests)))
    ∙ ap (λ (v : View). slice_get (fresh_pages v) c.args.i) c.self.view_is
