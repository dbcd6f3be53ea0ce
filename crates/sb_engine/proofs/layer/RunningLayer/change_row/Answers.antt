use Rattle.std.proofs.Common.{◌≡◌, List, [], append-nil, Option, Some, Bor, refl, sym, ap, ◌∙◌, subst}
use Rattle.std.specs.Option.{option_copied}
use Rattle.std.proofs.lemmas.Option.{same_Some}
use Rattle.sb_value.specs.declared.schema.Column.{Column}
use Rattle.sb_ctx.specs.declared.instance.Instance.{Instance}
use Rattle.sb_drive.proofs.SpacesLemmas.{ArePages-few}
use Rattle.sb_catalog.specs.declared.descriptor.Attached.{Attached}
use Rattle.sb_cascade.specs.Wishes.{wish_of}
use Rattle.sb_standing.specs.Tables.{IsWide}
use Rattle.sb_asking.specs.OpenRelation.{OpenRelation}
use Rattle.sb_asking.specs.Opened.{IsOpen}
use Rattle.sb_wishes.specs.Outcomes.{Comes, MayBeMade, Meets}
use Rattle.sb_wishes.specs.declared.settling.Outcome.{Outcome}
use Rattle.sb_fold.specs.Wishes.{wished}
use Rattle.sb_wishes.specs.Wished.{IsTableOf, MayBeWished}
use Rattle.sb_engine.specs.Goings.{front_none, grows_none}
use Rattle.sb_engine.specs.Working.{extensions_of, open_at}
use Rattle.sb_engine.proofs.OpenedLemmas.{has_open, open_at-all}
use Rattle.sb_engine.proofs.RefusedLemmas.{definite_stop, refused_cause}
use Rattle.sb_engine.proofs.RowLemmas.{is_table, row_full, row_lost, row_made, row_refused}
use Rattle.sb_engine.proofs.layer.RunningLayer.change_row.Goals as goal

pub carry_out-requires-clause-live : goal.carry_out-requires-clause-live
carry_out-requires-clause-live g c =
    let a = c.args.self.now in
    let m = g.B.Boxes.meanings a.boxes.now in
    let w = a.work.now in
    let name = c.args.name.now in
    let one = c.in-Some.one.now in
    let at : open_at w.opened.items name ≡ Some one =
    ap (λ (l : List OpenRelation). open_at l name) (sym c.deref.ensures.value) ∙ sym c.open_at.ensures ∙ ap (λ (o : Option (Bor OpenRelation)). option_copied o) c.in-Some.is in
    let is = open_at-all (IsOpen m) w.opened.items name one c.requires.ready.opened at in
    let same : one.table.schema ≡ one.descriptor.schema = ap (λ (i : Instance). i.schema) is.table in
    let may : c.requires.may.one ≡ one = same_Some c.requires.may.one one (sym c.requires.may.at ∙ at) in
    is.live

pub carry_out-requires-clause-wide : goal.carry_out-requires-clause-wide
carry_out-requires-clause-wide g c =
    let a = c.args.self.now in
    let m = g.B.Boxes.meanings a.boxes.now in
    let w = a.work.now in
    let name = c.args.name.now in
    let one = c.in-Some.one.now in
    let at : open_at w.opened.items name ≡ Some one =
    ap (λ (l : List OpenRelation). open_at l name) (sym c.deref.ensures.value) ∙ sym c.open_at.ensures ∙ ap (λ (o : Option (Bor OpenRelation)). option_copied o) c.in-Some.is in
    let is = open_at-all (IsOpen m) w.opened.items name one c.requires.ready.opened at in
    let same : one.table.schema ≡ one.descriptor.schema = ap (λ (i : Instance). i.schema) is.table in
    let may : c.requires.may.one ≡ one = same_Some c.requires.may.one one (sym c.requires.may.at ∙ at) in
    subst (λ (columns : List Column). IsWide columns) (sym same) is.wide

pub carry_out-requires-clause-fits : goal.carry_out-requires-clause-fits
carry_out-requires-clause-fits g c =
    let a = c.args.self.now in
    let m = g.B.Boxes.meanings a.boxes.now in
    let w = a.work.now in
    let name = c.args.name.now in
    let one = c.in-Some.one.now in
    let at : open_at w.opened.items name ≡ Some one =
    ap (λ (l : List OpenRelation). open_at l name) (sym c.deref.ensures.value) ∙ sym c.open_at.ensures ∙ ap (λ (o : Option (Bor OpenRelation)). option_copied o) c.in-Some.is in
    let is = open_at-all (IsOpen m) w.opened.items name one c.requires.ready.opened at in
    let same : one.table.schema ≡ one.descriptor.schema = ap (λ (i : Instance). i.schema) is.table in
    let may : c.requires.may.one ≡ one = same_Some c.requires.may.one one (sym c.requires.may.at ∙ at) in
    subst (λ (columns : List Column). MayBeWished columns (wish_of c.args.wish.now)) (ap (λ (o : OpenRelation). o.descriptor.schema) may ∙ sym same) c.requires.may.fits

pub returns-in-Ok-clause-made : goal.returns-in-Ok-clause-made
returns-in-Ok-clause-made g c = λ h stands.
    let a = c.args.self.now in
    let m = g.B.Boxes.meanings a.boxes.now in
    let w = a.work.now in
    let name = c.args.name.now in
    let one = c.in-Some.one.now in
    let at : open_at w.opened.items name ≡ Some one =
    ap (λ (l : List OpenRelation). open_at l name) (sym c.deref.ensures.value) ∙ sym c.open_at.ensures ∙ ap (λ (o : Option (Bor OpenRelation)). option_copied o) c.in-Some.is in
    let made = row_made g.S.PageSpace.has g.S.PageSpace.spent g.S.PageSpace.leads g.met.S.PageSpace.spends m a.place.root name (wish_of c.args.wish.now) one a.space.now c.carry_out.new.space h w c.note_pick.new.picks c.in-Ok-Made.change stands at
    (λ want s r has table rows. subst (λ (x : Outcome). Comes g.S.PageSpace.has g.S.PageSpace.leads m one.table want s a.space.now c.carry_out.new.space r rows (wished one.table.relation r (wish_of c.args.wish.now)) x) c.in-Ok-Made.field-0-is (c.in-Ok-Made.ensures.comes want s r has (subst (λ (l : List Attached). IsTableOf one.table l r) (sym c.as_slice-rules.ensures) table) rows)) c.in-Ok.ensures in
    record { picks = made.picks; after = made.after; leads = made.leads; stands = made.stands }

pub returns-in-Ok-clause-may : goal.returns-in-Ok-clause-may
returns-in-Ok-clause-may g c =
    let a = c.args.self.now in
    let m = g.B.Boxes.meanings a.boxes.now in
    let w = a.work.now in
    let name = c.args.name.now in
    let one = c.in-Some.one.now in
    let at : open_at w.opened.items name ≡ Some one =
    ap (λ (l : List OpenRelation). open_at l name) (sym c.deref.ensures.value) ∙ sym c.open_at.ensures ∙ ap (λ (o : Option (Bor OpenRelation)). option_copied o) c.in-Some.is in
    let is = open_at-all (IsOpen m) w.opened.items name one c.requires.ready.opened at in
    let same : one.table.schema ≡ one.descriptor.schema = ap (λ (i : Instance). i.schema) is.table in
    let may : c.requires.may.one ≡ one = same_Some c.requires.may.one one (sym c.requires.may.at ∙ at) in
    record {
      one = one;
      at = at;
      made = subst (λ (l : List Attached). MayBeMade one.descriptor.schema l c.in-Ok-Made.change) c.as_slice-rules.ensures
          (subst (λ (columns : List Column). MayBeMade columns c.as_slice-rules.result.now c.in-Ok-Made.change) same (subst (λ (x : Outcome). Meets one.table.schema c.as_slice-rules.result.now x) c.in-Ok-Made.field-0-is c.in-Ok-Made.ensures.meets));
    }

pub returns-in-Err-note_pick-clause-refused : goal.returns-in-Err-note_pick-clause-refused
returns-in-Err-note_pick-clause-refused g c = λ h stands.
    let a = c.args.self.now in
    let m = g.B.Boxes.meanings a.boxes.now in
    let w = a.work.now in
    let name = c.args.name.now in
    let one = c.in-Some.one.now in
    let at : open_at w.opened.items name ≡ Some one =
    ap (λ (l : List OpenRelation). open_at l name) (sym c.deref.ensures.value) ∙ sym c.open_at.ensures ∙ ap (λ (o : Option (Bor OpenRelation)). option_copied o) c.in-Some.is in
    row_lost g.S.PageSpace.has g.S.PageSpace.spent g.S.PageSpace.leads g.met.S.PageSpace.spends m a.place.root name (wish_of c.args.wish.now) one a.space.now c.carry_out.new.space _ _ h w c.in-Ok-Made.change stands at
    (λ want s r has table rows. subst (λ (x : Outcome). Comes g.S.PageSpace.has g.S.PageSpace.leads m one.table want s a.space.now c.carry_out.new.space r rows (wished one.table.relation r (wish_of c.args.wish.now)) x) c.in-Ok-Made.field-0-is (c.in-Ok-Made.ensures.comes want s r has (subst (λ (l : List Attached). IsTableOf one.table l r) (sym c.as_slice-rules.ensures) table) rows))
    (λ trail paid. record { cause = tt; licensed = tt; paid = paid })

pub returns-in-Ok-Refused-clause-refused : goal.returns-in-Ok-Refused-clause-refused
returns-in-Ok-Refused-clause-refused g c = λ h stands.
    let a = c.args.self.now in
    let m = g.B.Boxes.meanings a.boxes.now in
    let w = a.work.now in
    let name = c.args.name.now in
    let one = c.in-Some.one.now in
    let at : open_at w.opened.items name ≡ Some one =
    ap (λ (l : List OpenRelation). open_at l name) (sym c.deref.ensures.value) ∙ sym c.open_at.ensures ∙ ap (λ (o : Option (Bor OpenRelation)). option_copied o) c.in-Some.is in
    row_refused g.S.PageSpace.has g.S.PageSpace.spent g.S.PageSpace.leads g.met.S.PageSpace.spends m a.place.root name (wish_of c.args.wish.now) one a.space.now c.carry_out.new.space _ _ h w c.in-Ok-Refused.refusal stands at
    (λ want s r has table rows. subst (λ (x : Outcome). Comes g.S.PageSpace.has g.S.PageSpace.leads m one.table want s a.space.now c.carry_out.new.space r rows (wished one.table.relation r (wish_of c.args.wish.now)) x) c.in-Ok-Refused.field-0-is (c.in-Ok-Refused.ensures.comes want s r has (subst (λ (l : List Attached). IsTableOf one.table l r) (sym c.as_slice-rules.ensures) table) rows))
    (definite_stop g.S.PageSpace.has g.S.PageSpace.spent g.S.PageSpace.leads g.S.PageSpace.fails g.S.PageSpace.table _ c.in-Ok-Refused.refusal h.trail _)

pub returns-in-Err-clause-refused : goal.returns-in-Err-clause-refused
returns-in-Err-clause-refused g c = λ h stands.
    let a = c.args.self.now in
    let m = g.B.Boxes.meanings a.boxes.now in
    let w = a.work.now in
    let name = c.args.name.now in
    let one = c.in-Some.one.now in
    let at : open_at w.opened.items name ≡ Some one =
    ap (λ (l : List OpenRelation). open_at l name) (sym c.deref.ensures.value) ∙ sym c.open_at.ensures ∙ ap (λ (o : Option (Bor OpenRelation)). option_copied o) c.in-Some.is in
    let o = has_open m a.place.root stands.slots stands.kept w.opened.items name one stands.keeps.tables stands.opened at in
    let ext = extensions_of m in
    let table = is_table m stands.slots stands.kept name one o in
    let cause = refused_cause g.S.PageSpace.fails _ a.space.now c.carry_out.new.space c.in-Err.fault c.in-Err.ensures.works.refused (c.in-Err.ensures.undamaged stands.want stands.slots o.k.relation.rows stands.has o.rows) in
    rw c.refusal_of.ensures
    (row_full g.S.PageSpace.has g.S.PageSpace.spent g.S.PageSpace.leads g.met.S.PageSpace.spends m a.place.root name (wish_of c.args.wish.now) one a.space.now c.carry_out.new.space g.S.PageSpace.table _ _ h w c.in-Err.fault stands at
    (λ n. ArePages-few stands.slots n (g.met.S.PageSpace.whole stands.want stands.slots a.space.now stands.has) (g.met.S.PageSpace.few stands.want stands.slots a.space.now stands.has))
    (g.met.S.PageSpace.tabled stands.want stands.slots a.space.now stands.has) c.in-Err.ensures.works.leads
    (c.in-Err.ensures.full stands.want stands.slots o.k.relation stands.has (subst (λ (l : List Attached). IsTableOf one.table l o.k.relation) (sym c.as_slice-rules.ensures) table) o.rows)
    (c.in-Err.ensures.begins stands.want stands.slots o.k.relation stands.has (subst (λ (l : List Attached). IsTableOf one.table l o.k.relation) (sym c.as_slice-rules.ensures) table) o.rows)
    (λ trail licensed paid. record { cause = cause; licensed = licensed; paid = paid }))

pub returns-in-Ok-clause-leads : goal.returns-in-Ok-clause-leads
returns-in-Ok-clause-leads g c = record {
  goes = record {
    same_space = refl;
    same_work = refl;
    boxes = refl;
    place = refl;
    leads = c.in-Ok-Made.ensures.works.leads;
    queue = front_none c.args.self.now.work.now.queue;
    gone = ([], sym (append-nil c.args.self.now.work.now.gone.items));
  };
  opened = grows_none c.args.self.now.work.now.opened.items;
}

pub returns-in-Err-note_pick-clause-leads : goal.returns-in-Err-note_pick-clause-leads
returns-in-Err-note_pick-clause-leads g c = record {
  goes = record {
    same_space = refl;
    same_work = refl;
    boxes = refl;
    place = refl;
    leads = c.in-Ok-Made.ensures.works.leads;
    queue = front_none c.args.self.now.work.now.queue;
    gone = ([], sym (append-nil c.args.self.now.work.now.gone.items));
  };
  opened = grows_none c.args.self.now.work.now.opened.items;
}

pub returns-in-Ok-Refused-clause-leads : goal.returns-in-Ok-Refused-clause-leads
returns-in-Ok-Refused-clause-leads g c = record {
  goes = record {
    same_space = refl;
    same_work = refl;
    boxes = refl;
    place = refl;
    leads = c.in-Ok-Refused.ensures.works.leads;
    queue = front_none c.args.self.now.work.now.queue;
    gone = ([], sym (append-nil c.args.self.now.work.now.gone.items));
  };
  opened = grows_none c.args.self.now.work.now.opened.items;
}

pub returns-in-Err-clause-leads : goal.returns-in-Err-clause-leads
returns-in-Err-clause-leads g c = record {
  goes = record {
    same_space = refl;
    same_work = refl;
    boxes = refl;
    place = refl;
    leads = c.in-Err.ensures.works.leads;
    queue = front_none c.args.self.now.work.now.queue;
    gone = ([], sym (append-nil c.args.self.now.work.now.gone.items));
  };
  opened = grows_none c.args.self.now.work.now.opened.items;
}
