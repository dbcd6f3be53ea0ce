use Rattle.std.proofs.Common.{◌≡◌, ◌<◌, ◌≤◌, List, [], Option, Some, Bor, All, length, append-nil, refl, sym, ap, ◌∙◌, subst, arith}
use Rattle.std.specs.List.{slice_get}
use Rattle.std.specs.Option.{option_copied}
use Rattle.std.proofs.lemmas.Option.{same_Some, slice_get_read}
use Rattle.sb_rule.specs.declared.action.Action.{Action}
use Rattle.sb_ctx.specs.declared.instance.Instance.{Instance}
use Rattle.sb_catalog.specs.declared.descriptor.Attached.{Attached}
use Rattle.sb_asking.specs.declared.verdicts.Verdict.{Verdict}
use Rattle.sb_asking.specs.declared.verdicts.Verdict.TheVariants.{Admitted, Vetoed}
use Rattle.sb_asking.specs.Verdicts.{Says}
use Rattle.sb_cascade.specs.Fitting.{AllFit}
use Rattle.sb_cascade.specs.Runs.{Admitted as IsAdmitted}
use Rattle.sb_standing.specs.Tables.{db_of}
use Rattle.sb_standing.specs.Asked.{changed_kept}
use Rattle.sb_asking.specs.OpenRelation.{OpenRelation}
use Rattle.sb_asking.specs.Opened.{IsOpen}
use Rattle.sb_wishes.specs.Outcomes.{MayBeMade}
use Rattle.sb_engine.specs.Goings.{front_none, grows_none, stays}
use Rattle.sb_engine.specs.Working.{MayDo, extensions_of, open_at}
use Rattle.sb_engine.proofs.AskLemmas.{as_many, asked_all, asked_full, asked_more, asked_paid, asked_veto, few_rules, is_asked, is_next, keeping_asked, live_rule, meets_rule, no_rule, now_fit, rule_at, rules_asked, situation}
use Rattle.sb_engine.proofs.LateLemmas.{leads_more, within_front}
use Rattle.sb_engine.proofs.OpenedLemmas.{open_at-all}
use Rattle.sb_drive.proofs.SpacesLemmas.{ArePages-few}
use Rattle.sb_engine.specs.Licensed.{paid_for}
use Rattle.sb_engine.proofs.PaidLemmas.{paid_looking}
use Rattle.sb_engine.proofs.RefusedLemmas.{not_admitted, not_asked, read_stop, refused_cause}
use Rattle.sb_engine.proofs.layer.RunningLayer.ask.Goals as goal

pub unreachable-requires-in_default-get-2 : goal.unreachable-requires-in_default-get-2
unreachable-requires-in_default-get-2 g c =
    let a = c.args.self.now in
    let m = g.B.Boxes.meanings a.boxes.now in
    let w = a.work.now in
    let name = c.args.name.now in
    let one = c.in-Some.one.now in
    let at : open_at w.opened.items name ≡ Some one =
    ap (λ (l : List OpenRelation). open_at l name) (sym c.deref.ensures.value) ∙ sym c.open_at.ensures ∙ ap (λ (o : Option (Bor OpenRelation)). option_copied o) c.in-Some.is in
    let is : IsOpen m one = open_at-all (IsOpen m) w.opened.items name one c.requires.ready.opened at in
    let inst = c.in-Some-get.inst.now in
    let below : c.args.i < length one.rules.items = subst (λ (l : List Instance). c.args.i < length l) c.deref-2.ensures.value c.in-Some-get.ensures.lookup.3.0 in
    let inst_at : slice_get one.rules.items c.args.i ≡ Some inst = ap (λ (l : List Instance). slice_get l c.args.i) (sym c.deref-2.ensures.value)
    ∙ slice_get_read c.deref-2.result.now (length c.deref-2.result.now) c.args.i inst refl c.in-Some-get.ensures.lookup.3.0 c.in-Some-get.ensures.lookup.1 in
    let below_2 : c.args.i < length one.descriptor.attachments = as_many m one c.args.i is below in
    let past : length one.descriptor.attachments ≤ c.args.i = subst (λ (l : List Attached). length l ≤ c.args.i) c.as_slice.ensures c.in_default-get-2.ensures.lookup.3 in
    omega (arith, below_2, past)

pub ask_rule-requires-clause-live : goal.ask_rule-requires-clause-live
ask_rule-requires-clause-live g c =
    let a = c.args.self.now in
    let m = g.B.Boxes.meanings a.boxes.now in
    let w = a.work.now in
    let name = c.args.name.now in
    let one = c.in-Some.one.now in
    let at : open_at w.opened.items name ≡ Some one =
    ap (λ (l : List OpenRelation). open_at l name) (sym c.deref.ensures.value) ∙ sym c.open_at.ensures ∙ ap (λ (o : Option (Bor OpenRelation)). option_copied o) c.in-Some.is in
    let is : IsOpen m one = open_at-all (IsOpen m) w.opened.items name one c.requires.ready.opened at in
    let inst = c.in-Some-get.inst.now in
    let below : c.args.i < length one.rules.items = subst (λ (l : List Instance). c.args.i < length l) c.deref-2.ensures.value c.in-Some-get.ensures.lookup.3.0 in
    let inst_at : slice_get one.rules.items c.args.i ≡ Some inst = ap (λ (l : List Instance). slice_get l c.args.i) (sym c.deref-2.ensures.value)
    ∙ slice_get_read c.deref-2.result.now (length c.deref-2.result.now) c.args.i inst refl c.in-Some-get.ensures.lookup.3.0 c.in-Some-get.ensures.lookup.1 in
    live_rule m one c.args.i inst is inst_at

pub ask_rule-requires-clause-meets : goal.ask_rule-requires-clause-meets
ask_rule-requires-clause-meets g c =
    let a = c.args.self.now in
    let m = g.B.Boxes.meanings a.boxes.now in
    let w = a.work.now in
    let name = c.args.name.now in
    let one = c.in-Some.one.now in
    let at : open_at w.opened.items name ≡ Some one =
    ap (λ (l : List OpenRelation). open_at l name) (sym c.deref.ensures.value) ∙ sym c.open_at.ensures ∙ ap (λ (o : Option (Bor OpenRelation)). option_copied o) c.in-Some.is in
    let is : IsOpen m one = open_at-all (IsOpen m) w.opened.items name one c.requires.ready.opened at in
    let inst = c.in-Some-get.inst.now in
    let below : c.args.i < length one.rules.items = subst (λ (l : List Instance). c.args.i < length l) c.deref-2.ensures.value c.in-Some-get.ensures.lookup.3.0 in
    let inst_at : slice_get one.rules.items c.args.i ≡ Some inst = ap (λ (l : List Instance). slice_get l c.args.i) (sym c.deref-2.ensures.value)
    ∙ slice_get_read c.deref-2.result.now (length c.deref-2.result.now) c.args.i inst refl c.in-Some-get.ensures.lookup.3.0 c.in-Some-get.ensures.lookup.1 in
    let d = c.in-Some-get-2.attached.now in
    let here : slice_get one.descriptor.attachments c.args.i ≡ Some d = ap (λ (l : List Attached). slice_get l c.args.i) (sym c.as_slice.ensures)
    ∙ slice_get_read c.as_slice.result.now (length c.as_slice.result.now) c.args.i d refl c.in-Some-get-2.ensures.lookup.3.0 c.in-Some-get-2.ensures.lookup.1 in
    let made : MayBeMade one.descriptor.schema one.descriptor.attachments c.args.change.now =
    subst (λ (o : OpenRelation). MayBeMade o.descriptor.schema o.descriptor.attachments c.args.change.now) (same_Some c.requires.may.one one (sym c.requires.may.at ∙ at)) c.requires.may.made in
    meets_rule m one c.args.i inst d c.args.change.now is inst_at here made

pub returns-in_default-get-clause-asked : goal.returns-in_default-get-clause-asked
returns-in_default-get-clause-asked g c =
    let a = c.args.self.now in
    let m = g.B.Boxes.meanings a.boxes.now in
    let w = a.work.now in
    let name = c.args.name.now in
    let one = c.in-Some.one.now in
    let at : open_at w.opened.items name ≡ Some one =
    ap (λ (l : List OpenRelation). open_at l name) (sym c.deref.ensures.value) ∙ sym c.open_at.ensures ∙ ap (λ (o : Option (Bor OpenRelation)). option_copied o) c.in-Some.is in
    let is : IsOpen m one = open_at-all (IsOpen m) w.opened.items name one c.requires.ready.opened at in
    let made : MayBeMade one.descriptor.schema one.descriptor.attachments c.args.change.now =
    subst (λ (o : OpenRelation). MayBeMade o.descriptor.schema o.descriptor.attachments c.args.change.now) (same_Some c.requires.may.one one (sym c.requires.may.at ∙ at)) c.requires.may.made in
    let few : length one.rules.items ≤ c.args.i = subst (λ (l : List Instance). length l ≤ c.args.i) c.deref-2.ensures.value c.in_default-get.ensures.lookup.3 in
    λ h asking. asked_all g.S.PageSpace.has g.S.PageSpace.spent m a.place.root name c.args.change.now c.args.i h a.space.now w one asking at (no_rule m one c.args.i is few) made

pub returns-in_default-get-clause-leads : goal.returns-in_default-get-clause-leads
returns-in_default-get-clause-leads g c =
    stays g.S.PageSpace.leads g.met.S.PageSpace.stays c.args.self.now

pub returns-in_default-copy-clause-refused : goal.returns-in_default-copy-clause-refused
returns-in_default-copy-clause-refused g c =
    λ h asking. record { vetoed = tt; stopped = record { cause = tt; licensed = tt; paid = paid_for asking.paid } }

pub returns-in_default-copy-clause-leads : goal.returns-in_default-copy-clause-leads
returns-in_default-copy-clause-leads g c =
    stays g.S.PageSpace.leads g.met.S.PageSpace.stays c.args.self.now

pub returns-in-Ok-put_left-clause-asked : goal.returns-in-Ok-put_left-clause-asked
returns-in-Ok-put_left-clause-asked g c = λ h asking.
    let a = c.args.self.now in
    let m = g.B.Boxes.meanings a.boxes.now in
    let w = a.work.now in
    let name = c.args.name.now in
    let one = c.in-Some.one.now in
    let at : open_at w.opened.items name ≡ Some one =
    ap (λ (l : List OpenRelation). open_at l name) (sym c.deref.ensures.value) ∙ sym c.open_at.ensures ∙ ap (λ (o : Option (Bor OpenRelation)). option_copied o) c.in-Some.is in
    let is : IsOpen m one = open_at-all (IsOpen m) w.opened.items name one c.requires.ready.opened at in
    let inst = c.in-Some-get.inst.now in
    let below : c.args.i < length one.rules.items = subst (λ (l : List Instance). c.args.i < length l) c.deref-2.ensures.value c.in-Some-get.ensures.lookup.3.0 in
    let inst_at : slice_get one.rules.items c.args.i ≡ Some inst = ap (λ (l : List Instance). slice_get l c.args.i) (sym c.deref-2.ensures.value)
    ∙ slice_get_read c.deref-2.result.now (length c.deref-2.result.now) c.args.i inst refl c.in-Some-get.ensures.lookup.3.0 c.in-Some-get.ensures.lookup.1 in
    let d = c.in-Some-get-2.attached.now in
    let here : slice_get one.descriptor.attachments c.args.i ≡ Some d = ap (λ (l : List Attached). slice_get l c.args.i) (sym c.as_slice.ensures)
    ∙ slice_get_read c.as_slice.result.now (length c.as_slice.result.now) c.args.i d refl c.in-Some-get-2.ensures.lookup.3.0 c.in-Some-get-2.ensures.lookup.1 in
    let has = g.S.PageSpace.has in
    let change = c.args.change.now in
    let asked = is_asked has g.S.PageSpace.spent m a.place.root name change c.args.i h a.space.now w one asking at d here in
    let x = situation has g.S.PageSpace.spent m a.place.root name change c.args.i h a.space.now w one asking at d asked in
    let next = is_next has g.S.PageSpace.spent m a.place.root name change c.args.i h a.space.now w one asking at d inst asked (rule_at m one c.args.i inst d is inst_at here) in
    let mid = c.ask_rule.new.space in
    let says : Says has m a.place.root asking.want asking.slots x change mid (Admitted c.in-Ok-Admitted.now c.in-Ok-Admitted.late c.in-Ok-Admitted.checks) =
    subst (λ (v : Verdict). Says has m a.place.root asking.want asking.slots x change mid v) c.in-Ok-Admitted.field-0-is
    (c.in-Ok-Admitted.ensures.says asking.want asking.slots x asking.has asking.asks next) in
    let paid = asked_paid has g.S.PageSpace.spent m a.place.root name change c.args.i h a.space.now w one asking at g.S.PageSpace.leads g.met.S.PageSpace.spends mid d asked
    (c.ask_rule.ensures.costs asking.want asking.slots x asking.has asking.asks next) in
    let mine : c.into_vec-now.result.items ≡ c.in-Ok-Admitted.now = c.into_vec-now.ensures in
    let more = asked_more has g.S.PageSpace.spent m a.place.root name change c.args.i h a.space.now w one asking at d asked says.box c.in-Ok-Admitted.now c.in-Ok-Admitted.late c.in-Ok-Admitted.checks c.in-Ok.label
    mid c.prepare_all.new.space c.prepare_all.new.opened c.put_left.new.queue says.live says.judges says.leaves
    (c.in-Ok-prepare_all.ensures.looks.same asking.want says.leaves.slots says.leaves.has) c.in-Ok.ensures
    (paid_looking g.S.PageSpace.spent g.S.PageSpace.leads g.met.S.PageSpace.spends mid c.prepare_all.new.space c.in-Ok-prepare_all.ensures.looks.leads paid)
    (c.prepare_all.ensures.opened asking.want says.leaves.slots (changed_kept name change asking.before)
    (keeping_asked has g.S.PageSpace.spent m a.place.root name change c.args.i h a.space.now w one asking at d asked mid says.leaves))
    c.requires.ready.within
    c.in-Ok-put_left.ensures.put in
    (subst (λ (l : List Action). IsAdmitted (extensions_of m) name change c.args.i h l) (sym mine) more.0, more.1)

pub returns-in-Ok-put_left-clause-few : goal.returns-in-Ok-put_left-clause-few
returns-in-Ok-put_left-clause-few g c =
    let a = c.args.self.now in
    let m = g.B.Boxes.meanings a.boxes.now in
    let w = a.work.now in
    let name = c.args.name.now in
    let one = c.in-Some.one.now in
    let at : open_at w.opened.items name ≡ Some one =
    ap (λ (l : List OpenRelation). open_at l name) (sym c.deref.ensures.value) ∙ sym c.open_at.ensures ∙ ap (λ (o : Option (Bor OpenRelation)). option_copied o) c.in-Some.is in
    let is : IsOpen m one = open_at-all (IsOpen m) w.opened.items name one c.requires.ready.opened at in
    let inst = c.in-Some-get.inst.now in
    let below : c.args.i < length one.rules.items = subst (λ (l : List Instance). c.args.i < length l) c.deref-2.ensures.value c.in-Some-get.ensures.lookup.3.0 in
    let inst_at : slice_get one.rules.items c.args.i ≡ Some inst = ap (λ (l : List Instance). slice_get l c.args.i) (sym c.deref-2.ensures.value)
    ∙ slice_get_read c.deref-2.result.now (length c.deref-2.result.now) c.args.i inst refl c.in-Some-get.ensures.lookup.3.0 c.in-Some-get.ensures.lookup.1 in
    few_rules m one c.args.i is below

pub returns-in-Ok-put_left-clause-may : goal.returns-in-Ok-put_left-clause-may
returns-in-Ok-put_left-clause-may g c =
    subst (λ (l : List Action). All (λ x. MayDo c.prepare_all.new.opened.items x) l) c.deref-in-Ok-Admitted.ensures.value c.in-Ok-prepare_all.ensures.may

pub returns-in-Ok-put_left-clause-leads : goal.returns-in-Ok-put_left-clause-leads
returns-in-Ok-put_left-clause-leads g c = record {
  goes = record {
    same_space = refl;
    same_work = refl;
    boxes = refl;
    place = refl;
    leads = leads_more g.S.PageSpace.leads g.met.S.PageSpace.goes_on c.args.self.now.space.now c.ask_rule.new.space c.prepare_all.new.space c.in-Ok-Admitted.ensures.works.leads c.prepare_all.ensures.looks.leads;
    queue = c.put_left.ensures.front;
    gone = ([], sym (append-nil c.args.self.now.work.now.gone.items));
  };
  opened = c.prepare_all.ensures.grows;
}

pub returns-in-Ok-put_left-clause-ready : goal.returns-in-Ok-put_left-clause-ready
returns-in-Ok-put_left-clause-ready g c = record {
  ready = c.prepare_all.ensures.ready;
  owner = c.requires.ready.owner;
  opened = c.prepare_all.ensures.are_open;
  within = within_front c.args.self.now.work.now.queue c.put_left.new.queue c.args.self.now.work.now.done c.put_left.ensures.front c.requires.ready.within;
}

pub returns-in-Err-put_left-clause-refused : goal.returns-in-Err-put_left-clause-refused
returns-in-Err-put_left-clause-refused g c = λ h asking.
    let a = c.args.self.now in
    let m = g.B.Boxes.meanings a.boxes.now in
    let w = a.work.now in
    let name = c.args.name.now in
    let one = c.in-Some.one.now in
    let at : open_at w.opened.items name ≡ Some one =
    ap (λ (l : List OpenRelation). open_at l name) (sym c.deref.ensures.value) ∙ sym c.open_at.ensures ∙ ap (λ (o : Option (Bor OpenRelation)). option_copied o) c.in-Some.is in
    let is : IsOpen m one = open_at-all (IsOpen m) w.opened.items name one c.requires.ready.opened at in
    let inst = c.in-Some-get.inst.now in
    let below : c.args.i < length one.rules.items = subst (λ (l : List Instance). c.args.i < length l) c.deref-2.ensures.value c.in-Some-get.ensures.lookup.3.0 in
    let inst_at : slice_get one.rules.items c.args.i ≡ Some inst = ap (λ (l : List Instance). slice_get l c.args.i) (sym c.deref-2.ensures.value)
    ∙ slice_get_read c.deref-2.result.now (length c.deref-2.result.now) c.args.i inst refl c.in-Some-get.ensures.lookup.3.0 c.in-Some-get.ensures.lookup.1 in
    let d = c.in-Some-get-2.attached.now in
    let here : slice_get one.descriptor.attachments c.args.i ≡ Some d = ap (λ (l : List Attached). slice_get l c.args.i) (sym c.as_slice.ensures)
    ∙ slice_get_read c.as_slice.result.now (length c.as_slice.result.now) c.args.i d refl c.in-Some-get-2.ensures.lookup.3.0 c.in-Some-get-2.ensures.lookup.1 in
    let has = g.S.PageSpace.has in
    let change = c.args.change.now in
    let asked = is_asked has g.S.PageSpace.spent m a.place.root name change c.args.i h a.space.now w one asking at d here in
    let x = situation has g.S.PageSpace.spent m a.place.root name change c.args.i h a.space.now w one asking at d asked in
    let next = is_next has g.S.PageSpace.spent m a.place.root name change c.args.i h a.space.now w one asking at d inst asked (rule_at m one c.args.i inst d is inst_at here) in
    let mid = c.ask_rule.new.space in
    let paid = asked_paid has g.S.PageSpace.spent m a.place.root name change c.args.i h a.space.now w one asking at g.S.PageSpace.leads g.met.S.PageSpace.spends mid d asked
    (c.ask_rule.ensures.costs asking.want asking.slots x asking.has asking.asks next) in
    let later = paid_looking g.S.PageSpace.spent g.S.PageSpace.leads g.met.S.PageSpace.spends mid c.prepare_all.new.space c.in-Ok-prepare_all.ensures.looks.leads paid in
    record { vetoed = tt; stopped = record { cause = tt; licensed = tt; paid = paid_for later } }

pub returns-in-Err-put_left-clause-leads : goal.returns-in-Err-put_left-clause-leads
returns-in-Err-put_left-clause-leads g c = record {
  goes = record {
    same_space = refl;
    same_work = refl;
    boxes = refl;
    place = refl;
    leads = leads_more g.S.PageSpace.leads g.met.S.PageSpace.goes_on c.args.self.now.space.now c.ask_rule.new.space c.prepare_all.new.space c.in-Ok-Admitted.ensures.works.leads c.prepare_all.ensures.looks.leads;
    queue = c.put_left.ensures.front;
    gone = ([], sym (append-nil c.args.self.now.work.now.gone.items));
  };
  opened = c.prepare_all.ensures.grows;
}

pub returns-in-Err-put_left-clause-ready : goal.returns-in-Err-put_left-clause-ready
returns-in-Err-put_left-clause-ready g c = record {
  ready = c.prepare_all.ensures.ready;
  owner = c.requires.ready.owner;
  opened = c.prepare_all.ensures.are_open;
  within = within_front c.args.self.now.work.now.queue c.put_left.new.queue c.args.self.now.work.now.done c.put_left.ensures.front c.requires.ready.within;
}

pub returns-in-Err-prepare_all-clause-refused : goal.returns-in-Err-prepare_all-clause-refused
returns-in-Err-prepare_all-clause-refused g c = λ h asking.
    let a = c.args.self.now in
    let m = g.B.Boxes.meanings a.boxes.now in
    let w = a.work.now in
    let name = c.args.name.now in
    let one = c.in-Some.one.now in
    let at : open_at w.opened.items name ≡ Some one =
    ap (λ (l : List OpenRelation). open_at l name) (sym c.deref.ensures.value) ∙ sym c.open_at.ensures ∙ ap (λ (o : Option (Bor OpenRelation)). option_copied o) c.in-Some.is in
    let is : IsOpen m one = open_at-all (IsOpen m) w.opened.items name one c.requires.ready.opened at in
    let made : MayBeMade one.descriptor.schema one.descriptor.attachments c.args.change.now =
    subst (λ (o : OpenRelation). MayBeMade o.descriptor.schema o.descriptor.attachments c.args.change.now) (same_Some c.requires.may.one one (sym c.requires.may.at ∙ at)) c.requires.may.made in
    let inst = c.in-Some-get.inst.now in
    let below : c.args.i < length one.rules.items = subst (λ (l : List Instance). c.args.i < length l) c.deref-2.ensures.value c.in-Some-get.ensures.lookup.3.0 in
    let inst_at : slice_get one.rules.items c.args.i ≡ Some inst = ap (λ (l : List Instance). slice_get l c.args.i) (sym c.deref-2.ensures.value)
    ∙ slice_get_read c.deref-2.result.now (length c.deref-2.result.now) c.args.i inst refl c.in-Some-get.ensures.lookup.3.0 c.in-Some-get.ensures.lookup.1 in
    let d = c.in-Some-get-2.attached.now in
    let here : slice_get one.descriptor.attachments c.args.i ≡ Some d = ap (λ (l : List Attached). slice_get l c.args.i) (sym c.as_slice.ensures)
    ∙ slice_get_read c.as_slice.result.now (length c.as_slice.result.now) c.args.i d refl c.in-Some-get-2.ensures.lookup.3.0 c.in-Some-get-2.ensures.lookup.1 in
    let has = g.S.PageSpace.has in
    let change = c.args.change.now in
    let asked = is_asked has g.S.PageSpace.spent m a.place.root name change c.args.i h a.space.now w one asking at d here in
    let x = situation has g.S.PageSpace.spent m a.place.root name change c.args.i h a.space.now w one asking at d asked in
    let next = is_next has g.S.PageSpace.spent m a.place.root name change c.args.i h a.space.now w one asking at d inst asked (rule_at m one c.args.i inst d is inst_at here) in
    let mid = c.ask_rule.new.space in
    let says : Says has m a.place.root asking.want asking.slots x change mid (Admitted c.in-Ok-Admitted.now c.in-Ok-Admitted.late c.in-Ok-Admitted.checks) =
    subst (λ (v : Verdict). Says has m a.place.root asking.want asking.slots x change mid v) c.in-Ok-Admitted.field-0-is
    (c.in-Ok-Admitted.ensures.says asking.want asking.slots x asking.has asking.asks next) in
    let keeping = keeping_asked has g.S.PageSpace.spent m a.place.root name change c.args.i h a.space.now w one asking at d asked mid says.leaves in
    let rules = rules_asked has g.S.PageSpace.spent m a.place.root name change c.args.i h a.space.now w one asking at d asked mid says.leaves in
    let fit = now_fit has g.S.PageSpace.spent m a.place.root name change c.args.i h a.space.now w one asking at d asked says.box c.in-Ok-Admitted.now c.in-Ok-Admitted.late c.in-Ok-Admitted.checks says.judges made in
    let paid = asked_paid has g.S.PageSpace.spent m a.place.root name change c.args.i h a.space.now w one asking at g.S.PageSpace.leads g.met.S.PageSpace.spends mid d asked
    (c.ask_rule.ensures.costs asking.want asking.slots x asking.has asking.asks next) in
    let fit_all : AllFit (db_of (changed_kept name change asking.before)) c.deref-in-Ok-Admitted.result.now =
    subst (λ (l : List Action). AllFit (db_of (changed_kept name change asking.before)) l) (sym c.into_vec-now.ensures ∙ sym c.deref-in-Ok-Admitted.ensures.value) fit in
    rw c.refusal_of.ensures (not_asked _ (extensions_of m) name change c.args.i h c.in-Err-prepare_all.fault _
    (read_stop g.S.PageSpace.has g.S.PageSpace.spent g.S.PageSpace.leads g.S.PageSpace.fails g.S.PageSpace.table _ c.in-Err-prepare_all.fault h.trail _ c.in-Err-prepare_all.ensures.looks.fault
    (refused_cause g.S.PageSpace.fails _ mid c.prepare_all.new.space c.in-Err-prepare_all.fault c.in-Err-prepare_all.ensures.looks.refused
    (c.in-Err-prepare_all.ensures.undamaged asking.want says.leaves.slots (changed_kept name change asking.before) keeping rules fit_all))
    (paid_looking g.S.PageSpace.spent g.S.PageSpace.leads g.met.S.PageSpace.spends mid c.prepare_all.new.space c.in-Err-prepare_all.ensures.looks.leads (paid_for paid))))

pub returns-in-Err-prepare_all-clause-leads : goal.returns-in-Err-prepare_all-clause-leads
returns-in-Err-prepare_all-clause-leads g c = record {
  goes = record {
    same_space = refl;
    same_work = refl;
    boxes = refl;
    place = refl;
    leads = leads_more g.S.PageSpace.leads g.met.S.PageSpace.goes_on c.args.self.now.space.now c.ask_rule.new.space c.prepare_all.new.space c.in-Ok-Admitted.ensures.works.leads c.prepare_all.ensures.looks.leads;
    queue = front_none c.args.self.now.work.now.queue;
    gone = ([], sym (append-nil c.args.self.now.work.now.gone.items));
  };
  opened = c.prepare_all.ensures.grows;
}

pub returns-in-Ok-Vetoed-clause-refused : goal.returns-in-Ok-Vetoed-clause-refused
returns-in-Ok-Vetoed-clause-refused g c = λ h asking.
    let a = c.args.self.now in
    let m = g.B.Boxes.meanings a.boxes.now in
    let w = a.work.now in
    let name = c.args.name.now in
    let one = c.in-Some.one.now in
    let at : open_at w.opened.items name ≡ Some one =
    ap (λ (l : List OpenRelation). open_at l name) (sym c.deref.ensures.value) ∙ sym c.open_at.ensures ∙ ap (λ (o : Option (Bor OpenRelation)). option_copied o) c.in-Some.is in
    let is : IsOpen m one = open_at-all (IsOpen m) w.opened.items name one c.requires.ready.opened at in
    let inst = c.in-Some-get.inst.now in
    let below : c.args.i < length one.rules.items = subst (λ (l : List Instance). c.args.i < length l) c.deref-2.ensures.value c.in-Some-get.ensures.lookup.3.0 in
    let inst_at : slice_get one.rules.items c.args.i ≡ Some inst = ap (λ (l : List Instance). slice_get l c.args.i) (sym c.deref-2.ensures.value)
    ∙ slice_get_read c.deref-2.result.now (length c.deref-2.result.now) c.args.i inst refl c.in-Some-get.ensures.lookup.3.0 c.in-Some-get.ensures.lookup.1 in
    let d = c.in-Some-get-2.attached.now in
    let here : slice_get one.descriptor.attachments c.args.i ≡ Some d = ap (λ (l : List Attached). slice_get l c.args.i) (sym c.as_slice.ensures)
    ∙ slice_get_read c.as_slice.result.now (length c.as_slice.result.now) c.args.i d refl c.in-Some-get-2.ensures.lookup.3.0 c.in-Some-get-2.ensures.lookup.1 in
    let has = g.S.PageSpace.has in
    let change = c.args.change.now in
    let asked = is_asked has g.S.PageSpace.spent m a.place.root name change c.args.i h a.space.now w one asking at d here in
    let x = situation has g.S.PageSpace.spent m a.place.root name change c.args.i h a.space.now w one asking at d asked in
    let next = is_next has g.S.PageSpace.spent m a.place.root name change c.args.i h a.space.now w one asking at d inst asked (rule_at m one c.args.i inst d is inst_at here) in
    let mid = c.ask_rule.new.space in
    let says : Says has m a.place.root asking.want asking.slots x change mid Vetoed =
    subst (λ (v : Verdict). Says has m a.place.root asking.want asking.slots x change mid v) c.in-Ok-Vetoed.field-0-is
    (c.in-Ok-Vetoed.ensures.says asking.want asking.slots x asking.has asking.asks next) in
    let paid = paid_for (asked_paid has g.S.PageSpace.spent m a.place.root name change c.args.i h a.space.now w one asking at g.S.PageSpace.leads g.met.S.PageSpace.spends mid d asked (c.ask_rule.ensures.costs asking.want asking.slots x asking.has asking.asks next)) in
    not_admitted _ (extensions_of m) name change c.args.i h c.in-Ok.label c.veto.result _ c.veto.ensures
    (asked_veto has g.S.PageSpace.spent m a.place.root name change c.args.i h a.space.now w one asking at d asked says.box c.in-Ok.label says.live says.judges c.in-Ok.ensures) (record { cause = tt; licensed = tt; paid = paid }) (record { cause = tt; licensed = tt; paid = paid })

pub returns-in-Ok-Vetoed-clause-leads : goal.returns-in-Ok-Vetoed-clause-leads
returns-in-Ok-Vetoed-clause-leads g c = record {
  goes = record {
    same_space = refl;
    same_work = refl;
    boxes = refl;
    place = refl;
    leads = c.in-Ok-Vetoed.ensures.works.leads;
    queue = front_none c.args.self.now.work.now.queue;
    gone = ([], sym (append-nil c.args.self.now.work.now.gone.items));
  };
  opened = grows_none c.args.self.now.work.now.opened.items;
}

pub returns-in-Err-clause-refused : goal.returns-in-Err-clause-refused
returns-in-Err-clause-refused g c = λ h asking.
    let a = c.args.self.now in
    let m = g.B.Boxes.meanings a.boxes.now in
    let w = a.work.now in
    let name = c.args.name.now in
    let one = c.in-Some.one.now in
    let at : open_at w.opened.items name ≡ Some one =
    ap (λ (l : List OpenRelation). open_at l name) (sym c.deref.ensures.value) ∙ sym c.open_at.ensures ∙ ap (λ (o : Option (Bor OpenRelation)). option_copied o) c.in-Some.is in
    let is : IsOpen m one = open_at-all (IsOpen m) w.opened.items name one c.requires.ready.opened at in
    let inst = c.in-Some-get.inst.now in
    let below : c.args.i < length one.rules.items = subst (λ (l : List Instance). c.args.i < length l) c.deref-2.ensures.value c.in-Some-get.ensures.lookup.3.0 in
    let inst_at : slice_get one.rules.items c.args.i ≡ Some inst = ap (λ (l : List Instance). slice_get l c.args.i) (sym c.deref-2.ensures.value)
    ∙ slice_get_read c.deref-2.result.now (length c.deref-2.result.now) c.args.i inst refl c.in-Some-get.ensures.lookup.3.0 c.in-Some-get.ensures.lookup.1 in
    let d = c.in-Some-get-2.attached.now in
    let here : slice_get one.descriptor.attachments c.args.i ≡ Some d = ap (λ (l : List Attached). slice_get l c.args.i) (sym c.as_slice.ensures)
    ∙ slice_get_read c.as_slice.result.now (length c.as_slice.result.now) c.args.i d refl c.in-Some-get-2.ensures.lookup.3.0 c.in-Some-get-2.ensures.lookup.1 in
    let has = g.S.PageSpace.has in
    let change = c.args.change.now in
    let asked = is_asked has g.S.PageSpace.spent m a.place.root name change c.args.i h a.space.now w one asking at d here in
    let x = situation has g.S.PageSpace.spent m a.place.root name change c.args.i h a.space.now w one asking at d asked in
    let next = is_next has g.S.PageSpace.spent m a.place.root name change c.args.i h a.space.now w one asking at d inst asked (rule_at m one c.args.i inst d is inst_at here) in
    let mid = c.ask_rule.new.space in
    let cause = refused_cause g.S.PageSpace.fails _ a.space.now mid c.in-Err.fault c.in-Err.ensures.works.refused (c.in-Err.ensures.undamaged asking.want asking.slots x asking.has asking.asks next) in
    rw c.refusal_of-in-Err.ensures (not_asked _ (extensions_of m) name change c.args.i h c.in-Err.fault _
    (record {
      cause = cause;
      licensed = asked_full has g.S.PageSpace.spent m a.place.root name change c.args.i h a.space.now w one asking at g.S.PageSpace.leads g.S.PageSpace.table mid c.in-Err.fault d asked
          (λ n. ArePages-few asking.slots n (g.met.S.PageSpace.whole asking.want asking.slots a.space.now asking.has) (g.met.S.PageSpace.few asking.want asking.slots a.space.now asking.has))
          (g.met.S.PageSpace.tabled asking.want asking.slots a.space.now asking.has) c.in-Err.ensures.works.leads
          (c.in-Err.ensures.full asking.want asking.slots x asking.has asking.asks next);
      paid = paid_for (asked_paid has g.S.PageSpace.spent m a.place.root name change c.args.i h a.space.now w one asking at g.S.PageSpace.leads g.met.S.PageSpace.spends mid d asked (c.ask_rule.ensures.costs asking.want asking.slots x asking.has asking.asks next));
    }))

pub returns-in-Err-clause-leads : goal.returns-in-Err-clause-leads
returns-in-Err-clause-leads g c = record {
  goes = record {
    same_space = refl;
    same_work = refl;
    boxes = refl;
    place = refl;
    leads = c.in-Err.ensures.works.leads;
    queue = front_none c.args.self.now.work.now.queue;
    gone = ([], sym (append-nil c.args.self.now.work.now.gone.items));
  };
  opened = grows_none c.args.self.now.work.now.opened.items;
}
