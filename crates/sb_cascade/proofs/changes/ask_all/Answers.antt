use Rattle.std.proofs.Common.{◌≡◌, ◌+◌, ◌++◌, sym, ◌∙◌, subst, List}
use Rattle.std.specs.List.{All}
use Rattle.std.proofs.lemmas.List.Elements.{All-append}
use Rattle.std.proofs.lemmas.Result.{err_from_is_err_and}
use Rattle.sb_rule.specs.declared.action.Action.{Action}
use Rattle.sb_fold.specs.declared.refusal.Refusal.TheVariants.{NoMemory}
use Rattle.sb_cascade.specs.Steps.{ask_all}
use Rattle.sb_cascade.proofs.Asking.{Asking, appended, asking_all, asking_more, asking_stopped}
use Rattle.sb_cascade.proofs.Breaking.{broken_here}
use Rattle.sb_cascade.proofs.Forward.{forward_ask_all}
use Rattle.sb_cascade.proofs.changes.ask_all.Goals as goal

pub returns-in_err-actions-clause-refused : goal.returns-in_err-actions-clause-refused
returns-in_err-actions-clause-refused g c =
    let layer = g.L.Layer in
    let name = c.args.name.now in
    let change = c.args.change.now in
    let loop = c.loop-following in
    let p = err_from_is_err_and c.from_residual.result c.from_residual.ensures.1 in
    rw (p.1, p.2) (λ h asks.
    let asking = loop.invariant.asking h asks in
    asking_stopped layer.stands (layer.asks name change) layer.stopped (layer.extensions c.args.layer.now) name change (layer.extensions loop.layer) loop.i loop.following.items h c.in_err-actions.field-0.0 loop.layer c.ask.new.self
    (g.met.L.Layer.same c.args.layer.now loop.layer loop.invariant.leads) asking (c.in_err-actions.ensures.refused h asking.asks))

pub returns-then-is_err-clause-refused : goal.returns-then-is_err-clause-refused
returns-then-is_err-clause-refused g c = λ h asks.
    let layer = g.L.Layer in
    let name = c.args.name.now in
    let change = c.args.change.now in
    let loop = c.loop-following in
    let ext = layer.extensions c.args.layer.now in
    let asked = rw c.in-Some.is at (c.in_ok-actions.ensures.asked h (loop.invariant.asking h asks).asks) in
    broken_here layer.stopped (ask_all ext name change) h NoMemory c.ask.new.self (forward_ask_all ext name change)
    (g.met.L.Layer.stops_asking NoMemory name change (loop.i + 1) h c.ask.new.self tt asked.1)

pub loop-following-preserved : goal.loop-following-preserved
loop-following-preserved g c =
    let layer = g.L.Layer in
    let name = c.args.name.now in
    let change = c.args.change.now in
    let loop = c.loop-following in
    let new = c.ask.new.self in
    let before = loop.following.items in
    let now = c.in-Some.actions.items in
    let ext = layer.extensions c.args.layer.now in
    let leads = c.in_ok-actions.ensures.leads in
    let items : c.append.new.self.items ≡ before ++ now = appended c.append.result before now c.append.new.self.items (sym c.is_err.ensures.value ∙ c.if-is_err.false) c.append.ensures.items in
    record {
      leads = g.met.L.Layer.goes_on c.args.layer.now loop.layer new loop.invariant.leads leads;
      ready = c.in_ok-actions.ensures.ready;
      asks = g.met.L.Layer.still_asks name change loop.layer new leads loop.invariant.asks;
      may = subst (λ (xs : List Action). All (λ a. layer.may_do a new) xs) (sym items)
          (All-append (λ a. layer.may_do a new) before now (λ k d lt. g.met.L.Layer.still _ loop.layer new leads (loop.invariant.may k d lt)) (rw c.in-Some.is at c.in_ok-actions.ensures.may));
      asking = λ h asks.
          let asking = loop.invariant.asking h asks in
          subst (λ (xs : List Action). Asking (layer.asks name change) ext name change (loop.i + 1) xs h new) (sym items)
          (asking_more layer.stands (layer.asks name change) layer.stopped ext name change (layer.extensions loop.layer) loop.i before now h loop.layer new
          (g.met.L.Layer.same c.args.layer.now loop.layer loop.invariant.leads) asking (rw c.in-Some.is at (c.in_ok-actions.ensures.asked h asking.asks)));
    }

pub returns-clause-made : goal.returns-clause-made
returns-clause-made g c = λ h asks.
    let layer = g.L.Layer in
    let name = c.args.name.now in
    let change = c.args.change.now in
    let loop = c.loop-following in
    let asking = loop.invariant.asking h asks in
    asking_all layer.stands (layer.asks name change) layer.stopped (layer.extensions c.args.layer.now) name change (layer.extensions loop.layer) loop.i loop.following.items h loop.layer c.ask.new.self
    asking (rw c.in_default.is at (c.in_ok-actions.ensures.asked h asking.asks))
