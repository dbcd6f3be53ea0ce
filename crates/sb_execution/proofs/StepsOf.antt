-- The steps of commands that read or change relations.
use Rattle.std.proofs.Common.{◌≡◌, ℕ, ◌+◌, Bool, true, false, List, [], Option, Some, None, refl, ap, ◌∙◌}
use Rattle.sb_relation.specs.Db.{Key, Db}
use Rattle.sb_fold.specs.declared.refusal.Refusal.{Refusal}
use Rattle.sb_fold.specs.Extensions.{Extensions}
use Rattle.sb_fold.specs.Outcome.{Going, Outcome, Work, made, refuse, Leads}
use Rattle.sb_fold.proofs.LeadsLemmas.{leads_whole}
use Rattle.sb_plain.specs.declared.command.Command.{Command}
use Rattle.sb_plain.specs.declared.command.Command.TheVariants as command
use Rattle.sb_plain.specs.declared.reply.Reply.{Reply}
use Rattle.sb_plain.specs.declared.reply.Reply.TheVariants.{Refused}
use Rattle.sb_plain.specs.Step.{Steps}
use Rattle.sb_plain.specs.Reading.{read}
use Rattle.sb_plain.specs.Refusing.{refused}
use Rattle.sb_plain.specs.State.{State, Transaction, kept, paid, view, with_spent}
use Rattle.sb_plain.specs.Step.{Answer, Turn, answered, answering, carry_out, changing, commit_of, finished, if_up, managing, step, tested, turn_of, work_of}
use Rattle.sb_session.proofs.StepLemmas.{Steps-refused, at_fields}
use Rattle.sb_session.proofs.CommitSteps.{going_on, with_committed}
use Rattle.sb_execution.specs.Endings.{going_alone}
use Rattle.sb_execution.proofs.ReplyLemmas.{without_picks}

-- ---- where commands lead
-- the open transaction once so much was spent
abbrev pub with_spent_in : ℕ → Transaction → Transaction
with_spent_in n t = record t { spent = n }

-- and once work has come so far
abbrev pub worked : Transaction → Going → Transaction
worked t g = record { db = g.db; queue = g.queue; points = t.points; gone = g.gone; spent = g.trail.spent }

-- a state that isn't down, with this transaction
abbrev pub with_open : State → Option Transaction → State
with_open s o = record s { transaction = o; down = false }

-- a state with its own transaction is itself, and with more spent there it is that state but for what was spent
module _ (s : State) (t : Transaction) (up : s.down ≡ false) (inside : s.transaction ≡ Some t) where
  pub open_same : with_open s (Some t) ≡ s
  open_same = at_fields (λ (s : State). with_open s (Some t) ≡ s) s (Some t) false inside up refl

  pub open_spent : (n : ℕ) → with_open s (Some (with_spent_in n t)) ≡ with_spent n s
  open_spent n = at_fields (λ (s : State). with_open s (Some (with_spent_in n t)) ≡ with_spent n s) s (Some t) false inside up refl

-- ---- what is carried out of a command that no test refuses
up_paid : (s : State) → s.down ≡ false → if_up s ≡ paid s
up_paid s up = ap (λ (b : Bool). elim b as (λ c. State) [ true ↦ s | false ↦ paid s ]) up

carried : (ext : Extensions) (s : State) (c : Command) (picks : List Key) → s.down ≡ false → refused ext s c ≡ None
    → step ext s c picks ≡ carry_out ext (paid s) c picks (work_of ext c)
carried ext s c picks up none =
    ap (λ (r : Option Refusal). tested ext (if_up s) c picks r) none ∙ ap (λ (t : State). carry_out ext t c picks (work_of ext c)) (up_paid s up)

paid_view : (s : State) → view (paid s) ≡ view s
paid_view s = at_fields (λ (s : State). view (paid s) ≡ view s) s s.transaction s.down refl refl (by s.transaction)
  where
    by : (t : Option Transaction) → view (paid (record s { transaction = t; down = s.down })) ≡ view (record s { transaction = t; down = s.down })
    by None = refl
    by (Some t) = refl

module _ (ext : Extensions) (s : State) where
  -- a reading
  looked : (c : Command) (reply : Reply) → read ext (view s) c ≡ Some reply → managing (paid s) c [] (read ext (view (paid s)) c) ≡ answering (paid s) [] reply
  looked c reply is = ap (λ (db : Db). managing (paid s) c [] (read ext db c)) (paid_view s) ∙ ap (managing (paid s) c []) is

  reads : (c : Command) (reply : Reply) → read ext (view s) c ≡ Some reply → carry_out ext (paid s) c [] (work_of ext c) ≡ answering (paid s) [] reply
  reads (command.Get relation at) reply is = looked (command.Get relation at) reply is
  reads (command.Scan relation after limit) reply is = looked (command.Scan relation after limit) reply is
  reads (command.Lookup relation name values) reply is = looked (command.Lookup relation name values) reply is
  reads (command.Range relation name low high) reply is = looked (command.Range relation name low high) reply is
  reads (command.Entries relation name) reply is = looked (command.Entries relation name) reply is
  reads (command.Show relation) reply is = looked (command.Show relation) reply is
  reads command.Tables reply is = looked command.Tables reply is
  reads c reply is = absurd (cc)

  Steps-read : (c : Command) (reply : Reply) → s.down ≡ false → refused ext s c ≡ None → read ext (view s) c ≡ Some reply → Steps ext s c reply (paid s)
  Steps-read c reply up none is =
      let whole : step ext s c [] ≡ answering (paid s) [] reply = carried ext s c [] up none ∙ reads c reply is in
      record { picks = []; replies = ap (λ (t : Turn). t.reply) whole ∙ without_picks reply; leads = ap (λ (t : Turn). t.state) whole }

  -- a change
  changes : (c : Command) (picks : List Key) (work : Work Answer) → work_of ext c ≡ Some work → carry_out ext s c picks (work_of ext c) ≡ changing ext s picks work
  changes command.Commit picks work is = absurd (cc)
  changes c picks work is = ap (λ (w : Option (Work Answer)). carry_out ext s c picks w) is

module _ (ext : Extensions) (s : State) (c : Command) (up : s.down ≡ false) where
  -- ---- in an open transaction
  module _ (t : Transaction) (inside : s.transaction ≡ Some t) where
    abbrev pub within : State
    within = with_open s (Some t)

    -- what is so of a state with these fields
    pub by_fields : (P : State → Type 0) → P within → P s
    by_fields P is = at_fields P s (Some t) false inside up is

    pub Steps-read_inside : (reply : Reply) → refused ext s c ≡ None → read ext (view s) c ≡ Some reply
        → Steps ext s c reply (with_open s (Some (with_spent_in (t.spent + 1) t)))
    Steps-read_inside reply =
        by_fields (λ (s : State). refused ext s c ≡ None → read ext (view s) c ≡ Some reply → Steps ext s c reply (with_open s (Some (with_spent_in (t.spent + 1) t))))
        (λ none is. Steps-read ext within c reply refl none is)

    pub Steps-refused_inside : (r : Refusal) → refused ext s c ≡ Some r → Steps ext s c (Refused r) (with_open s (Some (with_spent_in (t.spent + 1) t)))
    Steps-refused_inside r =
        by_fields (λ (s : State). refused ext s c ≡ Some r → Steps ext s c (Refused r) (with_open s (Some (with_spent_in (t.spent + 1) t))))
        (λ is. Steps-refused ext within c r is)

    module _ (work : Work Answer) (is : work_of ext c ≡ Some work) (picks : List Key) (after : Going) where
      pub whole : refused ext within c ≡ None → step ext within c picks ≡ changing ext (paid within) picks work
      whole none = carried ext within c picks refl none ∙ changes ext (paid within) c picks work is

      turn : Outcome Answer → Turn
      turn o = turn_of (kept (paid within) t.points) (paid within) o

      pub Steps-worked_inside : (answer : Answer) → refused ext s c ≡ None → Leads work (going_on t) picks (made answer) after
          → Steps ext s c (answered answer after.used) (with_open s (Some (worked t after)))
      Steps-worked_inside answer none run =
          by_fields (λ (s : State). refused ext s c ≡ None → Steps ext s c (answered answer after.used) (with_open s (Some (worked t after))))
          (λ none.
          let all : step ext within c picks ≡ turn_of (kept (paid within) t.points) (paid within) (made answer (record after { picks = [] })) =
          whole none ∙ ap (turn_of (kept (paid within) t.points) (paid within)) (leads_whole run) in
          record { picks = picks; replies = ap (λ (t : Turn). t.reply) all; leads = ap (λ (t : Turn). t.state) all })
          none

      pub Steps-stopped_inside : (r : Refusal) → refused ext s c ≡ None → Leads work (going_on t) picks (refuse r) after
          → Steps ext s c (Refused r) (with_open s (Some (with_spent_in after.trail.spent t)))
      Steps-stopped_inside q none run =
          by_fields (λ (s : State). refused ext s c ≡ None → Steps ext s c (Refused q) (with_open s (Some (with_spent_in after.trail.spent t))))
          (λ none.
          let all : step ext within c picks ≡ turn_of (kept (paid within) t.points) (paid within) (refuse q (record after { picks = [] })) =
          whole none ∙ ap (turn_of (kept (paid within) t.points) (paid within)) (leads_whole run) in
          record { picks = picks; replies = ap (λ (t : Turn). t.reply) all; leads = ap (λ (t : Turn). t.state) all })
          none

  -- ---- in a transaction of its own
  module _ (outside : s.transaction ≡ None) where
    abbrev pub alone : State
    alone = with_open s None

    pub by_none : (P : State → Type 0) → P alone → P s
    by_none P is = at_fields P s None false outside up is

    pub Steps-read_alone : (reply : Reply) → refused ext s c ≡ None → read ext (view s) c ≡ Some reply → Steps ext s c reply (with_open s None)
    Steps-read_alone reply =
        by_none (λ (s : State). refused ext s c ≡ None → read ext (view s) c ≡ Some reply → Steps ext s c reply (with_open s None))
        (λ none is. Steps-read ext alone c reply refl none is)

    pub Steps-refused_alone : (r : Refusal) → refused ext s c ≡ Some r → Steps ext s c (Refused r) (with_open s None)
    Steps-refused_alone r =
        by_none (λ (s : State). refused ext s c ≡ Some r → Steps ext s c (Refused r) (with_open s None)) (λ is. Steps-refused ext alone c r is)

    module _ (work : Work Answer) (is : work_of ext c ≡ Some work) (picks : List Key) (after : Going) where
      pub whole_alone : refused ext alone c ≡ None → step ext alone c picks ≡ changing ext alone picks work
      whole_alone none = carried ext alone c picks refl none ∙ changes ext alone c picks work is

      pub Steps-worked_alone : (answer : Answer) → refused ext s c ≡ None → Leads (finished ext work) (going_alone s) picks (made answer) after
          → Steps ext s c (answered answer after.used) (with_committed s after.db)
      Steps-worked_alone answer none run =
          by_none (λ (s : State). refused ext s c ≡ None → Steps ext s c (answered answer after.used) (with_committed s after.db))
          (λ none.
          let all : step ext alone c picks ≡ turn_of (commit_of alone) alone (made answer (record after { picks = [] })) =
          whole_alone none ∙ ap (turn_of (commit_of alone) alone) (leads_whole run) in
          record { picks = picks; replies = ap (λ (t : Turn). t.reply) all; leads = ap (λ (t : Turn). t.state) all })
          none

      pub Steps-stopped_alone : (r : Refusal) → refused ext s c ≡ None → Leads (finished ext work) (going_alone s) picks (refuse r) after
          → Steps ext s c (Refused r) (with_open s None)
      Steps-stopped_alone q none run =
          by_none (λ (s : State). refused ext s c ≡ None → Steps ext s c (Refused q) (with_open s None))
          (λ none.
          let all : step ext alone c picks ≡ turn_of (commit_of alone) alone (refuse q (record after { picks = [] })) =
          whole_alone none ∙ ap (turn_of (commit_of alone) alone) (leads_whole run) in
          record { picks = picks; replies = ap (λ (t : Turn). t.reply) all; leads = ap (λ (t : Turn). t.state) all })
          none
