-- What a legend answers.
use Rattle.std.proofs.Common.{◌≡◌, ℕ, Bool, true, false, cond, List, [], ◌∷◌, Option, Some, None, option_map, map, refl, sym, ap, subst, ◌∙◌, arith}
use Rattle.std.specs.List.{find as first}
use Rattle.sb_rule.specs.declared.change.Change.{Change}
use Rattle.sb_rule.specs.declared.rule.Rule.{Rule}
use Rattle.sb_rule.specs.declared.rule.Rule.TheVariants.{Foreign}
use Rattle.sb_rule.specs.Spelling.{SpellsRule}
use Rattle.sb_relation.specs.Content.{Content, content_of}
use Rattle.sb_relation.specs.Db.{Key, Row}
use Rattle.sb_relation.specs.Images.{Entry}
use Rattle.sb_forms.specs.Pages.{Pages}
use Rattle.sb_ctx.specs.declared.instance.Instance.{Instance}
use Rattle.sb_ctx.specs.declared.calls.AttachCall.{AttachCall}
use Rattle.sb_ctx.specs.declared.calls.AttachCall.TheVariants as call
use Rattle.sb_ctx.specs.declared.moves.Move.{Move}
use Rattle.sb_ctx.specs.declared.moves.Move.TheVariants as move
use Rattle.sb_ctx.specs.AttachAnswers.{Answers, Built, Changed, Changes, Holds, Looks, MayEnd, NextIs, Prepared, content_over, content_over_rows, is_entry_above}
use Rattle.sb_ctx.specs.Laws.{IsAttachment}
use Rattle.sb_ctx.specs.View.{View, dropped}
use Rattle.sb_ctx.proofs.AuthorLaws.{foreign_rule}
use Rattle.sb_ctx.proofs.BoundLaws.{IsBoundlessFor, Changes-idle_for}
use Rattle.sb_foreign.specs.declared.legend.TheConstants.{SIGNS}
use Rattle.sb_foreign.specs.Legends.{entry_of, legend, legend_image, legend_rules}
use Rattle.sb_foreign.proofs.WatchedLaws.{Keeps-new, HoldContent-always, IsAlways-held}

-- the content over any rows
abbrev legend_content : Content
legend_content = content_of legend_image [] 0

-- its entries rise
pub IsAttachment-legend : IsAttachment legend
IsAttachment-legend = record { pageless = λ is. cc; searches = λ content query. refl; idle = λ is. cc; standard = λ ours content. omega (arith, ours); charged = λ keeps ours. absurd (omega (arith, ours)); inserts = λ key row before after. omega arith; formed = HoldContent-always legend_rules legend_content refl }

boundless_legend : IsBoundlessFor legend
boundless_legend = record { bound = λ content. refl; cost = λ c before after. refl; path = λ inst P c n. refl; code = refl }

foreign : (inst : Instance) (rule : Rule) → SpellsRule 1003 inst.desc rule → rule ≡ Foreign 1003 inst.desc
foreign inst rule spells = foreign_rule 1003 inst.desc rule (omega arith) spells

-- ---- calls that change rows: all stays, and is admitted
done : (inst : Instance) (c : AttachCall) (old : View) → dropped old ≡ old → MayEnd c move.Done → ((P : Pages) → Answers legend inst c old P P move.Done) → Changes legend inst c old old move.Done
done inst c old clean may ends = Changes-idle_for legend inst c old move.Done boundless_legend clean tt tt may (λ P part. ends P)

pub Changes-prepared : (inst : Instance) (old : View) → dropped old ≡ old → Changes legend inst call.Prepare old old move.Done
Changes-prepared inst old clean = done inst call.Prepare old clean tt (λ P new rule db stands.
    subst (λ (r : Rule). Prepared legend inst r db P move.Done) (sym (foreign inst rule stands.spelled)) (Keeps-new legend_content inst P (new inst.root)))

pub Changes-built : (inst : Instance) (key : Key) (row : Row) (old : View) → dropped old ≡ old → Changes legend inst (call.Build key row) old old move.Done
Changes-built inst key row old clean = done inst (call.Build key row) old clean tt (λ P rule db stands built buckets before.
    let is = foreign inst rule stands.spelled in
    subst (λ (r : Rule). Built legend inst r db built buckets key row P move.Done) (sym is)
    (refl, subst (λ (r : Rule). Holds legend inst P (content_over_rows legend inst r db built buckets)) is before.content))

pub Changes-changed : (inst : Instance) (c : Change) (old : View) → dropped old ≡ old → Changes legend inst (call.Changed c) old old move.Done
Changes-changed inst c old clean = done inst (call.Changed c) old clean tt (λ P rule db stands buckets before.
    let is = foreign inst rule stands.spelled in
    subst (λ (r : Rule). Changed legend inst r db buckets c P move.Done) (sym is) (record {
      admitted = refl;
      holds = subst (λ (r : Rule). Holds legend inst P (content_over legend inst r db buckets)) is before.content;
      now_are = refl;
      late_are = refl;
      checks_are = refl;
    }))

-- ---- entries
-- the first entry that passes is that of the first sign whose entry does
first-entry : (p : Entry → Bool) (signs : List ℕ) → first p (map entry_of signs) ≡ option_map entry_of (first (λ sign. p (entry_of sign)) signs)
first-entry p [] = refl
first-entry p (sign ∷ signs) =
    elim (p (entry_of sign)) as (λ b. cond b (Some (entry_of sign)) (first p (map entry_of signs)) ≡ option_map entry_of (cond b (Some sign) (first (λ s. p (entry_of s)) signs))) [
      | true ↦ refl
      | false ↦ first-entry p signs
    ]

-- a move that says which sign is next
next_answers : (inst : Instance) (low : Key) (after : Option Entry) (P : Pages) (made : Move) (next : Option ℕ) → next ≡ first (λ sign. is_entry_above low after (entry_of sign)) SIGNS → NextIs (option_map entry_of next) made
    → (content : Content) → Holds legend inst P content → NextIs (first (is_entry_above low after) content.entries) made
next_answers inst low after P made next is so content holds =
    subst (λ (o : Option Entry). NextIs o made)
    (ap (option_map entry_of) is ∙ sym (first-entry (is_entry_above low after) SIGNS) ∙ ap (λ (c : Content). first (is_entry_above low after) c.entries) (sym (IsAlways-held legend_content inst P content holds).is)) so

pub Looks-entry : (inst : Instance) (low : Key) (after : Option Entry) (sign : ℕ) (entry : Entry) (old : View) → entry ≡ entry_of sign → Some sign ≡ first (λ sign. is_entry_above low after (entry_of sign)) SIGNS
    → Looks legend inst (call.NextEntry low after) old old (move.Entry entry.0 entry.1)
Looks-entry inst low after sign entry old is next = subst (λ (e : Entry). Looks legend inst (call.NextEntry low after) old old (move.Entry e.0 e.1)) (sym is) (record {
  same = refl;
  reads = tt;
  asks = tt;
  broken = tt;
  ends = refl;
  answers = λ P part. next_answers inst low after P (move.Entry (sign ∷ []) []) (Some sign) next refl;
  spends = λ P part formed. tt;
})

pub Looks-end : (inst : Instance) (low : Key) (after : Option Entry) (old : View) → None ≡ first (λ sign. is_entry_above low after (entry_of sign)) SIGNS → Looks legend inst (call.NextEntry low after) old old move.End
Looks-end inst low after old is = record {
  same = refl;
  reads = tt;
  asks = tt;
  broken = tt;
  ends = tt;
  answers = λ P part. next_answers inst low after P move.End None is refl;
  spends = λ P part formed. tt;
}
