use Rattle.std.proofs.Common.{◌≡◌, suc, ◌-◌, ◌∙◌, List, subst, arith}
use Rattle.std.proofs.lemmas.Result.{err_from_is_err_and}
use Rattle.sb_rule.specs.declared.action.Action.{Action}
use Rattle.sb_fold.specs.declared.refusal.Refusal.TheVariants.{Depth, NoMemory}
use Rattle.sb_fold.specs.Fold.{act, act_all, change_within, matching}
use Rattle.sb_fold.specs.Outcome.{Going}
use Rattle.sb_cascade.specs.Runs.{MadeFrom, StopsFrom}
use Rattle.sb_cascade.specs.Steps.{change_key}
use Rattle.sb_cascade.specs.Wishes.{wish_of}
use Rattle.sb_cascade.proofs.Acting.{acting_all, acting_more, acting_none, acting_stopped, all_changed, counting_all, counting_more, counting_none, counting_stopped, inserted, key_changed, key_left, key_stopped, not_all_changed, not_inserted}
use Rattle.sb_cascade.proofs.Breaking.{broken_here}
use Rattle.sb_cascade.proofs.Forward.{forward_act, forward_key, forward_within}
use Rattle.sb_cascade.proofs.Levels.{all_acted, no_level, not_acted, not_asked, not_changed}
use Rattle.sb_cascade.proofs.Stopping.{stops_looking}
use Rattle.sb_cascade.proofs.changes.+changes.Goals as goal

pub change-returns-then-levels-eq0-clause-refused : goal.change-returns-then-levels-eq0-clause-refused
change-returns-then-levels-eq0-clause-refused g t c =
    let layer = g.L.Layer in
    let old = c.args.layer.now in
    λ h stands. no_level layer.stopped (layer.extensions old) c.args.levels c.args.name.now (wish_of c.args.wish.now) h old (omega arith) (g.met.L.Layer.stops Depth h old tt stands)

pub change-returns-in_err-change-clause-refused : goal.change-returns-in_err-change-clause-refused
change-returns-in_err-change-clause-refused g t c =
    let layer = g.L.Layer in
    let old = c.args.layer.now in
    let p = err_from_is_err_and c.from_residual.result c.from_residual.ensures.1 in
    rw (p.1, p.2)
    (not_changed layer.stands layer.stopped (layer.extensions old) c.args.levels (c.args.levels - 1) c.args.name.now (wish_of c.args.wish.now) old (omega arith)
    c.in_err-change.field-0.0 c.change_row.new.self c.in_err-change.ensures.refused)

pub change-returns-in_err-following-clause-refused : goal.change-returns-in_err-following-clause-refused
change-returns-in_err-following-clause-refused g t c =
    let layer = g.L.Layer in
    let laws = g.met.L.Layer in
    let old = c.args.layer.now in
    let name = c.args.name.now in
    let wish = wish_of c.args.wish.now in
    let levels = c.args.levels in
    let ext = layer.extensions old in
    let mid = c.change_row.new.self in
    let change = c.in_ok-change.change in
    let is : levels ≡ suc (levels - 1) = omega arith in
    let p = err_from_is_err_and c.from_residual-in_err-following.result c.from_residual-in_err-following.ensures.1 in
    rw (p.1, p.2)
    (not_asked layer.stands layer.stopped ext levels (levels - 1) name wish old is (layer.asks name change 0) change mid c.in_ok-change.ensures.made
    (layer.extensions mid) c.in_err-following.field-0.0 c.ask_all.new.layer (laws.same old mid c.in_ok-change.ensures.leads) c.in_err-following.ensures.refused)

pub change-returns-in_err-act_all-clause-refused : goal.change-returns-in_err-act_all-clause-refused
change-returns-in_err-act_all-clause-refused g t c =
    let layer = g.L.Layer in
    let laws = g.met.L.Layer in
    let old = c.args.layer.now in
    let name = c.args.name.now in
    let wish = wish_of c.args.wish.now in
    let levels = c.args.levels in
    let ext = layer.extensions old in
    let mid = c.change_row.new.self in
    let change = c.in_ok-change.change in
    let is : levels ≡ suc (levels - 1) = omega arith in
    let mid1 = c.ask_all.new.layer in
    let following = c.in_ok-following.following.items in
    let leads = laws.goes_on old mid mid1 c.in_ok-change.ensures.leads c.in_ok-following.ensures.leads in
    let r = c.in_err-act_all.field-0.0 in
    let new = c.act_all.new.layer in
    let p = err_from_is_err_and c.from_residual-in_err-act_all.result c.from_residual-in_err-act_all.ensures.1 in
    let stops = subst (λ (l : List Action). (h : Going) → layer.stands h mid1 → StopsFrom layer.stopped (act_all (change_within (layer.extensions mid1) (levels - 1)) l) h r new) c.deref.ensures.value c.in_err-act_all.ensures.refused in
    rw (p.1, p.2)
    (not_acted layer.stands layer.stopped ext levels (levels - 1) name wish old is (layer.asks name change 0) change mid c.in_ok-change.ensures.made
    (layer.extensions mid) following mid1 (laws.same old mid c.in_ok-change.ensures.leads) c.in_ok-following.ensures.made
    (layer.extensions mid1) r new (laws.same old mid1 leads) stops)

pub change-returns-clause-made : goal.change-returns-clause-made
change-returns-clause-made g t c =
    let layer = g.L.Layer in
    let laws = g.met.L.Layer in
    let old = c.args.layer.now in
    let name = c.args.name.now in
    let wish = wish_of c.args.wish.now in
    let levels = c.args.levels in
    let ext = layer.extensions old in
    let mid = c.change_row.new.self in
    let change = c.in_ok-change.change in
    let is : levels ≡ suc (levels - 1) = omega arith in
    let mid1 = c.ask_all.new.layer in
    let following = c.in_ok-following.following.items in
    let leads = laws.goes_on old mid mid1 c.in_ok-change.ensures.leads c.in_ok-following.ensures.leads in
    let new = c.act_all.new.layer in
    let made = subst (λ (l : List Action). (h : Going) → layer.stands h mid1 → MadeFrom layer.stands (act_all (change_within (layer.extensions mid1) (levels - 1)) l) h tt new) c.deref.ensures.value c.in_ok-act_all.ensures.made in
    all_acted layer.stands layer.stopped ext levels (levels - 1) name wish old is (layer.asks name change 0) change mid c.in_ok-change.ensures.made
    (layer.extensions mid) following mid1 (laws.same old mid c.in_ok-change.ensures.leads) c.in_ok-following.ensures.made
    (layer.extensions mid1) c.key_after.result new (laws.same old mid1 leads) c.key_after.ensures made

pub act-returns-in_default-row_of-clause-refused : goal.act-returns-in_default-row_of-clause-refused
act-returns-in_default-row_of-clause-refused g t c =
    let layer = g.L.Layer in
    let laws = g.met.L.Layer in
    let old = c.args.layer.now in
    let ext = layer.extensions old in
    let levels = c.args.levels in
    let a = c.args.action.now in
    λ h stands. broken_here layer.stopped (act (change_within ext levels) a) h NoMemory old (forward_act (change_within ext levels) (forward_within ext levels) a) (laws.stops NoMemory h old tt stands)

pub act-returns-in_err-change-in-Insert-clause-refused : goal.act-returns-in_err-change-in-Insert-clause-refused
act-returns-in_err-change-in-Insert-clause-refused g t c =
    let layer = g.L.Layer in
    let laws = g.met.L.Layer in
    let old = c.args.layer.now in
    let ext = layer.extensions old in
    let levels = c.args.levels in
    let a = c.args.action.now in
    let insert = c.in-Insert in
    let p = err_from_is_err_and c.from_residual.result c.from_residual.ensures.1 in
    rw (p.1, p.2)
    (not_inserted layer.stands layer.stopped ext levels a old insert.relation insert.terms c.in-Ok.row insert.is c.in-Ok.ensures
    c.in_err-change-in-Insert.field-0.0 c.change.new.layer c.in_err-change-in-Insert.ensures.refused)

pub act-returns-in_err-keys-in_default : goal.act-returns-in_err-keys-in_default
act-returns-in_err-keys-in_default g t c =
    let layer = g.L.Layer in
    let laws = g.met.L.Layer in
    let old = c.args.layer.now in
    let ext = layer.extensions old in
    let levels = c.args.levels in
    let a = c.args.action.now in
    let err = c.in_err-keys-in_default in
    let p = err_from_is_err_and c.from_residual-in_err-keys-in_default.result c.from_residual-in_err-keys-in_default.ensures.1 in
    record {
      made = rw p.1 tt;
      refused = rw (p.1, p.2)
          (λ h stands. stops_looking layer.stopped (act (change_within ext levels) a) err.field-0.0 c.matching.new.self h (forward_act (change_within ext levels) (forward_within ext levels) a) (err.ensures.refused h stands));
      fault = rw (p.1, p.2) err.ensures.fault;
      leads = err.ensures.leads;
      ready = err.ensures.ready;
    }

pub act-returns-in_ok-keys-in_default : goal.act-returns-in_ok-keys-in_default
act-returns-in_ok-keys-in_default g t c =
    let layer = g.L.Layer in
    let laws = g.met.L.Layer in
    let old = c.args.layer.now in
    let ext = layer.extensions old in
    let levels = c.args.levels in
    let a = c.args.action.now in
    let mid = c.matching.new.self in
    let new = c.change_each.new.layer in
    let keys = c.in_ok-keys-in_default.ensures in
    let matched : (h : Going) → layer.stands h old → (c.deref.result.now ≡ matching h.db a) × layer.stands h mid = λ h stands. let m = keys.keys h stands in (c.deref.ensures.value ∙ m.0, m.1) in
    record {
      made = all_changed layer.stands layer.stopped ext levels a old mid c.deref.result.now (layer.extensions mid) (λ name terms e. c.in_default.not-Insert name terms e) (laws.same old mid keys.leads) matched
          c.change_each.result new c.change_each.ensures.made;
      refused = not_all_changed layer.stands layer.stopped ext levels a old mid c.deref.result.now (layer.extensions mid) (λ name terms e. c.in_default.not-Insert name terms e) (laws.same old mid keys.leads) matched
          c.change_each.result new c.change_each.ensures.refused;
      fault = c.change_each.ensures.fault;
      leads = laws.goes_on old mid new keys.leads c.change_each.ensures.leads;
      ready = c.change_each.ensures.ready;
    }

pub act_all-loop-action-init : goal.act_all-loop-action-init
act_all-loop-action-init g t c =
    let layer = g.L.Layer in
    let old = c.args.layer.now in
    record { leads = g.met.L.Layer.stays old; ready = c.requires.ready; acting = acting_none layer.stands layer.stopped (layer.extensions old) c.args.levels c.args.actions.now old }

pub act_all-returns-in_err-act-clause-refused : goal.act_all-returns-in_err-act-clause-refused
act_all-returns-in_err-act-clause-refused g t c =
    let layer = g.L.Layer in
    let laws = g.met.L.Layer in
    let old = c.args.layer.now in
    let ext = layer.extensions old in
    let levels = c.args.levels in
    let actions = c.args.actions.now in
    let loop = c.loop-action in
    let same = laws.same old loop.layer loop.invariant.leads in
    let p = err_from_is_err_and c.from_residual.result c.from_residual.ensures.1 in
    rw (p.1, p.2)
    (acting_stopped layer.stands layer.stopped ext levels actions old loop.action-index c.action-item.result loop.layer (layer.extensions loop.layer) same c.loop-action-test.true c.action-item.is loop.invariant.acting
    c.in_err-act.field-0.0 c.act.new.layer c.in_err-act.ensures.refused)

pub act_all-loop-action-preserved : goal.act_all-loop-action-preserved
act_all-loop-action-preserved g t c =
    let layer = g.L.Layer in
    let laws = g.met.L.Layer in
    let old = c.args.layer.now in
    let ext = layer.extensions old in
    let levels = c.args.levels in
    let actions = c.args.actions.now in
    let loop = c.loop-action in
    let same = laws.same old loop.layer loop.invariant.leads in
    record {
      leads = laws.goes_on old loop.layer c.act.new.layer loop.invariant.leads c.in_ok-act.ensures.leads;
      ready = c.in_ok-act.ensures.ready;
      acting = acting_more layer.stands layer.stopped ext levels actions old loop.action-index c.action-item.result loop.layer (layer.extensions loop.layer) same c.loop-action-test.true c.action-item.is loop.invariant.acting
          c.in_ok-act.field-0 c.act.new.layer c.in_ok-act.ensures.made;
    }

pub change_each-loop-key-init : goal.change_each-loop-key-init
change_each-loop-key-init g t c =
    let layer = g.L.Layer in
    let old = c.args.layer.now in
    record { leads = g.met.L.Layer.stays old; ready = c.requires.ready; few = omega arith; counting = counting_none layer.stands layer.stopped (layer.extensions old) c.args.levels c.args.action.now c.args.keys.now old }

pub change_each-returns-in_err-count-clause-refused : goal.change_each-returns-in_err-count-clause-refused
change_each-returns-in_err-count-clause-refused g t c =
    let layer = g.L.Layer in
    let laws = g.met.L.Layer in
    let old = c.args.layer.now in
    let ext = layer.extensions old in
    let levels = c.args.levels in
    let a = c.args.action.now in
    let keys = c.args.keys.now in
    let loop = c.loop-key in
    let same = laws.same old loop.layer loop.invariant.leads in
    let p = err_from_is_err_and c.from_residual.result c.from_residual.ensures.1 in
    rw (p.1, p.2)
    (counting_stopped layer.stands layer.stopped ext levels a keys old loop.key-index loop.count c.key-item.result loop.layer (layer.extensions loop.layer) same c.loop-key-test.true c.key-item.is loop.invariant.counting
    c.in_err-count.field-0.0 c.change_key.new.layer c.in_err-count.ensures.refused)

pub change_each-loop-key-preserved : goal.change_each-loop-key-preserved
change_each-loop-key-preserved g t c =
    let layer = g.L.Layer in
    let laws = g.met.L.Layer in
    let old = c.args.layer.now in
    let ext = layer.extensions old in
    let levels = c.args.levels in
    let a = c.args.action.now in
    let keys = c.args.keys.now in
    let loop = c.loop-key in
    let same = laws.same old loop.layer loop.invariant.leads in
    let few = loop.invariant.few in
    let one = c.in_ok-count.ensures.few in
    record {
      leads = laws.goes_on old loop.layer c.change_key.new.layer loop.invariant.leads c.in_ok-count.ensures.leads;
      ready = c.in_ok-count.ensures.ready;
      few = omega (arith, few, one);
      counting = counting_more layer.stands layer.stopped ext levels a keys old loop.key-index loop.count c.key-item.result loop.layer (layer.extensions loop.layer) same c.loop-key-test.true c.key-item.is loop.invariant.counting
          c.in_ok-count.field-0 c.change_key.new.layer c.in_ok-count.ensures.made;
    }

pub change_key-returns-in_err-wish_at-clause-refused : goal.change_key-returns-in_err-wish_at-clause-refused
change_key-returns-in_err-wish_at-clause-refused g t c =
    let layer = g.L.Layer in
    let laws = g.met.L.Layer in
    let old = c.args.layer.now in
    let ext = layer.extensions old in
    let levels = c.args.levels in
    let a = c.args.action.now in
    let key = c.args.key.now in
    let p = err_from_is_err_and c.from_residual.result c.from_residual.ensures.1 in
    rw (p.1, p.2)
    (λ h stands. stops_looking layer.stopped (change_key (change_within ext levels) a key) c.in_err-wish_at.field-0.0 c.wish_at.new.self h (forward_key (change_within ext levels) (forward_within ext levels) a key)
    (c.in_err-wish_at.ensures.refused h stands))

pub change_key-returns-in_err-change-in-Some-clause-refused : goal.change_key-returns-in_err-change-in-Some-clause-refused
change_key-returns-in_err-change-in-Some-clause-refused g t c =
    let layer = g.L.Layer in
    let laws = g.met.L.Layer in
    let old = c.args.layer.now in
    let ext = layer.extensions old in
    let levels = c.args.levels in
    let a = c.args.action.now in
    let key = c.args.key.now in
    let mid = c.wish_at.new.self in
    let wished = c.in_ok-wish_at.ensures in
    let x = c.in_ok-wish_at.field-0 in
    let p = err_from_is_err_and c.from_residual-in_err-change-in-Some.result c.from_residual-in_err-change-in-Some.ensures.1 in
    rw (p.1, p.2)
    (key_stopped layer.stands layer.stopped ext levels a key old mid x wished.wish c.in-Some.wish c.relation_of.result.now (layer.extensions mid) c.in-Some.is c.relation_of.ensures (laws.same old mid wished.leads)
    c.in_err-change-in-Some.field-0.0 c.change.new.layer c.in_err-change-in-Some.ensures.refused)

pub change_key-returns-in-None-clause-made : goal.change_key-returns-in-None-clause-made
change_key-returns-in-None-clause-made g t c =
    let layer = g.L.Layer in
    let laws = g.met.L.Layer in
    let old = c.args.layer.now in
    let ext = layer.extensions old in
    let levels = c.args.levels in
    let a = c.args.action.now in
    let key = c.args.key.now in
    let mid = c.wish_at.new.self in
    let wished = c.in_ok-wish_at.ensures in
    let x = c.in_ok-wish_at.field-0 in
    key_left layer.stands layer.stopped ext levels a key old mid x wished.wish c.in-None.is

pub act-returns-in_ok-change-in-Insert-clause-made : goal.act-returns-in_ok-change-in-Insert-clause-made
act-returns-in_ok-change-in-Insert-clause-made g t c =
    let layer = g.L.Layer in
    let old = c.args.layer.now in
    let insert = c.in-Insert in
    inserted layer.stands layer.stopped (layer.extensions old) c.args.levels c.args.action.now old insert.relation insert.terms c.in-Ok.row insert.is c.in-Ok.ensures
    c.in_ok-change-in-Insert.field-0 c.change.new.layer c.in_ok-change-in-Insert.ensures.made

pub act_all-returns-clause-made : goal.act_all-returns-clause-made
act_all-returns-clause-made g t c =
    let layer = g.L.Layer in
    let old = c.args.layer.now in
    let loop = c.loop-action in
    acting_all layer.stands layer.stopped (layer.extensions old) c.args.levels c.args.actions.now old loop.action-index loop.layer (omega arith) loop.invariant.acting

pub change_each-returns-clause-made : goal.change_each-returns-clause-made
change_each-returns-clause-made g t c =
    let layer = g.L.Layer in
    let old = c.args.layer.now in
    let loop = c.loop-key in
    counting_all layer.stands layer.stopped (layer.extensions old) c.args.levels c.args.action.now c.args.keys.now old loop.key-index loop.count loop.layer (omega arith) loop.invariant.counting

pub change_key-returns-in_ok-change-in-Some-clause-made : goal.change_key-returns-in_ok-change-in-Some-clause-made
change_key-returns-in_ok-change-in-Some-clause-made g t c =
    let layer = g.L.Layer in
    let laws = g.met.L.Layer in
    let old = c.args.layer.now in
    let ext = layer.extensions old in
    let mid = c.wish_at.new.self in
    let wished = c.in_ok-wish_at.ensures in
    key_changed layer.stands layer.stopped ext c.args.levels c.args.action.now c.args.key.now old mid c.in_ok-wish_at.field-0 wished.wish c.in-Some.wish c.relation_of.result.now (layer.extensions mid) c.in-Some.is c.relation_of.ensures
    (laws.same old mid wished.leads) c.in_ok-change-in-Some.field-0 c.change.new.layer c.in_ok-change-in-Some.ensures.made
