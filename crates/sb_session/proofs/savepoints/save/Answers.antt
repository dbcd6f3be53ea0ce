use Rattle.std.proofs.Common.{ℕ, ◌≤◌, ◌<◌, ◌∷◌, ◌++◌, [], Result, OnOk, sym, ap, ◌∙◌, subst}
use Rattle.sb_fold.specs.declared.refusal.Refusal.{Refusal}
use Rattle.sb_relation.specs.Db.{Name}
use Rattle.sb_session.specs.declared.session.Open.{Open}
use Rattle.sb_session.specs.Points.{IsSaved, is_named}
use Rattle.sb_session.proofs.PointLemmas.{place_known}
use Rattle.sb_session.proofs.savepoints.save.Goals.{in-Ok-push, in-Err}
use Rattle.sb_session.proofs.savepoints.save.Goals as goal

pub returns-then-is_some-clause-refused : goal.returns-then-is_some-clause-refused
returns-then-is_some-clause-refused c =
    c.exists.ensures c.args.current.now.points.items (sym (place_known (is_named c.args.name.now) c.deref.result.now c.args.current.now.points.items c.point_of.result c.point_of.ensures c.deref.ensures.value) ∙ sym c.is_some.ensures ∙ c.if-is_some.true)

pub returns-then-len-ge-MOST_POINTS-clause-refused : goal.returns-then-len-ge-MOST_POINTS-clause-refused
returns-then-len-ge-MOST_POINTS-clause-refused c =
    (sym (place_known (is_named c.args.name.now) c.deref.result.now c.args.current.now.points.items c.point_of.result c.point_of.ensures c.deref.ensures.value) ∙ sym c.is_some.ensures ∙ c.if-is_some.false, subst (λ (n : ℕ). 64 ≤ n) (c.len.ensures ∙ c.args.current.now.points.ok.0) c.if-len-ge-MOST_POINTS.true)

pub returns-clause-saved : goal.returns-clause-saved
returns-clause-saved c =
    let old = c.args.current.now in
    let new : Open = record { transaction = old.transaction; points = c.push.new.self } in
    elim c.match-push.branch [
      | in-Ok-push w ↦
          subst (λ (r : Result (Unit {0}) Refusal). OnOk r (IsSaved c.args.space.now.store c.args.name.now old new)) (sym w.result-is) (record {
            point = c.mark-point.result;
            points = w.in-Ok-push.ensures.items ∙ ap (λ (n : Name). old.points.items ++ record { name = n; point = c.mark-point.result } ∷ []) c.in-Ok.ensures;
            fresh = sym (place_known (is_named c.args.name.now) c.deref.result.now c.args.current.now.points.items c.point_of.result c.point_of.ensures c.deref.ensures.value) ∙ sym c.is_some.ensures ∙ c.if-is_some.false;
            few = subst (λ (n : ℕ). n < 64) (c.len.ensures ∙ c.args.current.now.points.ok.0) c.if-len-ge-MOST_POINTS.false;
            of = c.mark-point.ensures.of;
            was = c.mark-point.ensures.was;
            behind = c.mark-point.ensures.latest;
          })
      | in-Err w ↦ subst (λ (r : Result (Unit {0}) Refusal). OnOk r (IsSaved c.args.space.now.store c.args.name.now old new)) (sym w.result-is) tt
    ]
