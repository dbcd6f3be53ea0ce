-- What a limit answers.
use Rattle.std.proofs.Common.{◌≡◌, ℕ, Bool, true, false, Some, None, refl, sym, subst, arith}
use Rattle.sb_rule.specs.declared.change.Change.{Change}
use Rattle.sb_rule.specs.declared.rule.Rule.{Rule}
use Rattle.sb_rule.specs.declared.rule.Rule.TheVariants.{Foreign}
use Rattle.sb_rule.specs.Bound.{row_after}
use Rattle.sb_relation.specs.Changes.{of_new}
use Rattle.sb_relation.specs.Content.{no_content}
use Rattle.sb_relation.specs.Db.{Key, Row, Rows, Db}
use Rattle.sb_forms.specs.Pages.{Pages}
use Rattle.sb_ctx.specs.declared.instance.Instance.{Instance}
use Rattle.sb_ctx.specs.declared.calls.AttachCall.{AttachCall}
use Rattle.sb_ctx.specs.declared.calls.AttachCall.TheVariants as call
use Rattle.sb_ctx.specs.declared.moves.Move.{Move}
use Rattle.sb_ctx.specs.declared.moves.Move.TheVariants as move
use Rattle.sb_ctx.specs.AttachAnswers.{AsksFor, IsBroken, MayEnd, Answers, Built, Changed, Changes, Holds, Prepared, content_over, content_over_rows}
use Rattle.sb_ctx.specs.Laws.{IsAttachment}
use Rattle.sb_ctx.specs.View.{View, dropped, HoldsPart}
use Rattle.sb_ctx.proofs.AuthorLaws.{foreign_rule}
use Rattle.sb_ctx.proofs.BoundLaws.{IsBoundlessFor, Changes-idle_for}
use Rattle.sb_foreign.specs.Watched.{verdict_of}
use Rattle.sb_foreign.specs.Limits.{limit, limit_rules, is_within}
use Rattle.sb_foreign.proofs.WatchedLaws.{of_row, of_none, Keeps-new, HoldContent-always}

pub IsAttachment-limit : IsAttachment limit
IsAttachment-limit = record { pageless = λ is. cc; searches = λ content query. refl; idle = λ is. cc; standard = λ ours content. omega (arith, ours); charged = λ keeps ours. absurd (omega (arith, ours)); inserts = λ key row before after. omega arith; formed = HoldContent-always limit_rules no_content refl }

boundless_limit : IsBoundlessFor limit
boundless_limit = record { bound = λ content. refl; cost = λ c before after. refl; path = λ inst P c n. refl; code = refl }

-- a call that leaves all as it is, and ends as the database says
ended : (inst : Instance) (c : AttachCall) (old : View) (made : Move) → dropped old ≡ old → AsksFor old made → IsBroken limit inst old made → MayEnd c made →
    ((P : Pages) → HoldsPart old P → Answers limit inst c old P P made) → Changes limit inst c old old made
ended inst c old made clean asks broken may ends = Changes-idle_for limit inst c old made boundless_limit clean asks broken may ends

pub Changes-prepared : (inst : Instance) (old : View) → dropped old ≡ old → Changes limit inst call.Prepare old old move.Done
Changes-prepared inst old clean = ended inst call.Prepare old move.Done clean tt tt tt (λ P part new rule db stands.
    subst (λ (r : Rule). Prepared limit inst r db P move.Done) (sym (foreign_rule 1000 inst.desc rule (omega arith) stands.spelled)) (Keeps-new no_content inst P (new inst.root)))

pub Changes-built : (inst : Instance) (key : Key) (row : Row) (old : View) → dropped old ≡ old → Changes limit inst (call.Build key row) old old (verdict_of (is_within inst.desc row))
Changes-built inst key row old clean = by (is_within inst.desc row) refl
  where
    over : (rule : Rule) (db : Db) (built : Rows) (buckets : ℕ) (P : Pages) (made : Move) → rule ≡ Foreign 1000 inst.desc → Holds limit inst P (content_over_rows limit inst rule db built buckets)
        → (Holds limit inst P (content_over_rows limit inst (Foreign 1000 inst.desc) db built buckets) → Built limit inst (Foreign 1000 inst.desc) db built buckets key row P made) → Built limit inst rule db built buckets key row P made
    over rule db built buckets P made is holds ends = subst (λ (r : Rule). Built limit inst r db built buckets key row P made) (sym is) (ends (subst (λ (r : Rule). Holds limit inst P (content_over_rows limit inst r db built buckets)) is holds))

    by : (b : Bool) → is_within inst.desc row ≡ b → Changes limit inst (call.Build key row) old old (verdict_of b)
    by true says = ended inst (call.Build key row) old move.Done clean tt tt tt (λ P part rule db stands built buckets before.
        over rule db built buckets P move.Done (foreign_rule 1000 inst.desc rule (omega arith) stands.spelled) before.content (λ holds. (says, holds)))
    by false says = ended inst (call.Build key row) old move.Veto clean tt tt tt (λ P part rule db stands built buckets before.
        over rule db built buckets P move.Veto (foreign_rule 1000 inst.desc rule (omega arith) stands.spelled) before.content (λ holds. (says, (_, holds))))

pub Changes-admitted : (inst : Instance) (c : Change) (old : View) (admitted : Bool) → dropped old ≡ old → of_new c (λ key new. is_within inst.desc new) ≡ admitted → Changes limit inst (call.Changed c) old old (verdict_of admitted)
Changes-admitted inst c old admitted clean says = by admitted says
  where
    over : (rule : Rule) (db : Db) (buckets : ℕ) (P : Pages) (made : Move) → rule ≡ Foreign 1000 inst.desc → Holds limit inst P (content_over limit inst rule db buckets)
        → (Holds limit inst P (content_over limit inst (Foreign 1000 inst.desc) db buckets) → Changed limit inst (Foreign 1000 inst.desc) db buckets c P made) → Changed limit inst rule db buckets c P made
    over rule db buckets P made is holds ends = subst (λ (r : Rule). Changed limit inst r db buckets c P made) (sym is) (ends (subst (λ (r : Rule). Holds limit inst P (content_over limit inst r db buckets)) is holds))

    by : (b : Bool) → of_new c (λ key new. is_within inst.desc new) ≡ b → Changes limit inst (call.Changed c) old old (verdict_of b)
    by true says = ended inst (call.Changed c) old move.Done clean tt tt tt (λ P part rule db stands buckets before.
        over rule db buckets P move.Done (foreign_rule 1000 inst.desc rule (omega arith) stands.spelled) before.content
        (λ holds. record { admitted = says; holds = holds; now_are = refl; late_are = refl; checks_are = refl }))
    by false says = ended inst (call.Changed c) old move.Veto clean tt tt tt (λ P part rule db stands buckets before.
        over rule db buckets P move.Veto (foreign_rule 1000 inst.desc rule (omega arith) stands.spelled) before.content (λ holds. (says, (_, holds))))

pub Changes-changed : (inst : Instance) (c : Change) (row : Row) (old : View) → dropped old ≡ old → row_after c ≡ Some row → Changes limit inst (call.Changed c) old old (verdict_of (is_within inst.desc row))
Changes-changed inst c row old clean is = Changes-admitted inst c old (is_within inst.desc row) clean (of_row c row (is_within inst.desc) is)

pub Changes-deleted : (inst : Instance) (c : Change) (old : View) → dropped old ≡ old → row_after c ≡ None → Changes limit inst (call.Changed c) old old move.Done
Changes-deleted inst c old clean is = Changes-admitted inst c old true clean (of_none c (is_within inst.desc) is)
