-- The steps of the commands that change what a session is.
use Rattle.std.proofs.Common.{◌≡◌, ℕ, nat_le, Bool, true, false, not, List, [], ◌∷◌, length, Option, Some, None, option_map, refl, sym, ap, ◌∙◌, subst}
use Rattle.std.specs.List.{list_any}
use Rattle.sb_relation.specs.Db.{Name}
use Rattle.sb_relation.specs.Fits.{first_missing}
use Rattle.sb_fold.specs.declared.refusal.Refusal.{Refusal}
use Rattle.sb_fold.specs.declared.refusal.Refusal.TheVariants as refusal
use Rattle.sb_fold.specs.Extensions.{Extensions}
use Rattle.sb_plain.specs.declared.command.Command.{Command}
use Rattle.sb_plain.specs.declared.command.Command.TheVariants as command
use Rattle.sb_plain.specs.declared.reply.Reply.TheVariants.{Refused}
use Rattle.sb_plain.specs.Step.{Steps}
use Rattle.sb_plain.specs.Refusing.{refused, first_of, refuse_where, is_misplaced, relations_of, first_existing, first_absent, code_where, missing_code, first_use, is_well_kinded, is_mixed, passes_limits, some_where}
use Rattle.sb_plain.specs.State.{State, Transaction, codes_of, has_code, view, is_inside, points_of, is_point, ended, paid}
use Rattle.sb_plain.specs.Step.{Turn, answering, begin, carry_out, if_up, managed, ok, refusing, step, tested, work_of}

-- ---- states by their fields
-- what holds of a state of this transaction that is down or not holds of one whose transaction is this
pub at_fields : (P : State → Type 0) (s : State) (transaction : Option Transaction) (down : Bool) → s.transaction ≡ transaction → s.down ≡ down
    → P (record s { transaction = transaction; down = down }) → P s
at_fields P s transaction down e f p =
    subst (λ (t : Option Transaction). P (record s { transaction = t })) (sym e)
    (subst (λ (b : Bool). P (record s { transaction = transaction; down = b })) (sym f) p)

up_paid : (s : State) → s.down ≡ false → if_up s ≡ paid s
up_paid s up = ap (λ (b : Bool). elim b as (λ c. State) [ true ↦ s | false ↦ paid s ]) up

-- ---- refusals before anything changes
-- the tests behind those that ask whether the kernel is down and where the command stands
abbrev later : Extensions → State → Command → List (Option Refusal)
later ext s c =
    option_map refusal.NoRelation (first_missing (view s) (relations_of c))
    ∷ option_map refusal.Exists (first_existing s c)
    ∷ option_map refusal.NoName (first_absent s c)
    ∷ option_map refusal.NoExtension (missing_code s c)
    ∷ option_map (λ user. refusal.InUse user.0 user.1) (first_use (view s) c)
    ∷ refuse_where (not (is_well_kinded ext (view s) c)) refusal.Mistyped
    ∷ refuse_where (is_mixed ext (view s) c) refusal.Mixed
    ∷ refuse_where (passes_limits s c) refusal.Limit
    ∷ []

module _ (ext : Extensions) (s : State) (c : Command) where
  pub refused_down : s.down ≡ true → refused ext s c ≡ Some refusal.Down
  refused_down down = ap (λ (b : Bool). first_of (refuse_where b refusal.Down ∷ refuse_where (is_misplaced s c) refusal.State ∷ later ext s c)) down

  pub refused_placed : (b : Bool) → s.down ≡ false → is_misplaced s c ≡ b → refused ext s c ≡ first_of (refuse_where b refusal.State ∷ later ext s c)
  refused_placed b up place =
      ap (λ (b : Bool). first_of (refuse_where b refusal.Down ∷ refuse_where (is_misplaced s c) refusal.State ∷ later ext s c)) up
      ∙ ap (λ (b : Bool). first_of (refuse_where b refusal.State ∷ later ext s c)) place

  -- ---- steps that are refused
  pub Steps-refused : (r : Refusal) → refused ext s c ≡ Some r → Steps ext s c (Refused r) (if_up s)
  Steps-refused r is =
      let whole : step ext s c [] ≡ refusing (if_up s) r = ap (λ (r : Option Refusal). tested ext (if_up s) c [] r) is in
      record { picks = []; replies = ap (λ (t : Turn). t.reply) whole; leads = ap (λ (t : Turn). t.state) whole }

  pub Steps-down : s.down ≡ true → Steps ext s c (Refused refusal.Down) (if_up s)
  Steps-down down = Steps-refused refusal.Down (refused_down down)

  pub Steps-misplaced : s.down ≡ false → is_misplaced s c ≡ true → Steps ext s c (Refused refusal.State) (if_up s)
  Steps-misplaced up misplaced = Steps-refused refusal.State (refused_placed true up misplaced)

  -- ---- steps that go through
  pub Steps-managed : (after : State) → s.down ≡ false → refused ext s c ≡ None → carry_out ext (paid s) c [] (work_of ext c) ≡ answering after [] ok
      → Steps ext s c ok after
  Steps-managed after up none does =
      let whole : step ext s c [] ≡ answering after [] ok =
      ap (λ (r : Option Refusal). tested ext (if_up s) c [] r) none ∙ ap (λ (t : State). carry_out ext t c [] (work_of ext c)) (up_paid s up) ∙ does in
      record { picks = []; replies = ap (λ (t : Turn). t.reply) whole; leads = ap (λ (t : Turn). t.state) whole }

module _ (ext : Extensions) (s : State) (up : s.down ≡ false) where
  pub Steps-begin : is_inside s ≡ false → Steps ext s command.Begin ok (begin (paid s))
  Steps-begin outside = Steps-managed ext s command.Begin (begin (paid s)) up (refused_placed ext s command.Begin false up outside) refl

  pub Steps-checkpoint : is_inside s ≡ false → Steps ext s command.Checkpoint ok (paid s)
  Steps-checkpoint outside = Steps-managed ext s command.Checkpoint (paid s) up (refused_placed ext s command.Checkpoint false up outside) refl

  pub Steps-abort : is_inside s ≡ true → Steps ext s command.Abort ok (ended (paid s))
  Steps-abort inside = Steps-managed ext s command.Abort (ended (paid s)) up (refused_placed ext s command.Abort false up (ap not inside)) refl

  -- ---- savepoints
  module _ (name : Name) (inside : is_inside s ≡ true) where
    placed_savepoint : refused ext s (command.Savepoint name) ≡ first_of (later ext s (command.Savepoint name))
    placed_savepoint = refused_placed ext s (command.Savepoint name) false up (ap not inside)

    placed_rollback : refused ext s (command.Rollback name) ≡ first_of (later ext s (command.Rollback name))
    placed_rollback = refused_placed ext s (command.Rollback name) false up (ap not inside)

    -- what comes of them, by the points
    abbrev savepoint_first : Bool → Bool → Option Refusal
    savepoint_first known many = first_of (option_map refusal.Exists (some_where known name) ∷ None ∷ None ∷ None ∷ None ∷ None ∷ refuse_where many refusal.Limit ∷ [])

    abbrev rollback_first : Bool → Option Refusal
    rollback_first known = first_of (option_map refusal.NoName (some_where (not known) name) ∷ None ∷ None ∷ None ∷ None ∷ None ∷ [])

    savepoint_by : (known many : Bool) → list_any (is_point name) (points_of s) ≡ known → nat_le 64 (length (points_of s)) ≡ many
        → refused ext s (command.Savepoint name) ≡ savepoint_first known many
    savepoint_by known many e f =
        placed_savepoint ∙ ap (λ (b : Bool). savepoint_first b (nat_le 64 (length (points_of s)))) e ∙ ap (λ (b : Bool). savepoint_first known b) f

    rollback_by : (known : Bool) → list_any (is_point name) (points_of s) ≡ known → refused ext s (command.Rollback name) ≡ rollback_first known
    rollback_by known e = placed_rollback ∙ ap rollback_first e

    pub Steps-exists : list_any (is_point name) (points_of s) ≡ true → Steps ext s (command.Savepoint name) (Refused (refusal.Exists name)) (if_up s)
    Steps-exists known =
        Steps-refused ext s (command.Savepoint name) (refusal.Exists name) (savepoint_by true (nat_le 64 (length (points_of s))) known refl)

    pub Steps-limit : list_any (is_point name) (points_of s) ≡ false → nat_le 64 (length (points_of s)) ≡ true
        → Steps ext s (command.Savepoint name) (Refused refusal.Limit) (if_up s)
    Steps-limit fresh many = Steps-refused ext s (command.Savepoint name) refusal.Limit (savepoint_by false true fresh many)

    pub Steps-savepoint : list_any (is_point name) (points_of s) ≡ false → nat_le 64 (length (points_of s)) ≡ false
        → Steps ext s (command.Savepoint name) ok (managed (command.Savepoint name) (paid s))
    Steps-savepoint fresh few =
        Steps-managed ext s (command.Savepoint name) (managed (command.Savepoint name) (paid s)) up (savepoint_by false false fresh few) refl

    pub Steps-no_name : list_any (is_point name) (points_of s) ≡ false → Steps ext s (command.Rollback name) (Refused (refusal.NoName name)) (if_up s)
    Steps-no_name none = Steps-refused ext s (command.Rollback name) (refusal.NoName name) (rollback_by false none)

    pub Steps-rollback : list_any (is_point name) (points_of s) ≡ true → Steps ext s (command.Rollback name) ok (managed (command.Rollback name) (paid s))
    Steps-rollback known =
        Steps-managed ext s (command.Rollback name) (managed (command.Rollback name) (paid s)) up (rollback_by true known) refl

  -- ---- boxes that become live or spare
  module _ (method : Bool) (code : ℕ) (outside : is_inside s ≡ false) where
    abbrev register_first : Bool → Option Refusal
    register_first known = first_of (option_map refusal.NoExtension (code_where (not known) code) ∷ None ∷ None ∷ None ∷ None ∷ [])

    register_by : (known : Bool) → has_code (codes_of method s.spare) code ≡ known → refused ext s (command.Register method code) ≡ register_first known
    register_by known e = refused_placed ext s (command.Register method code) false up outside ∙ ap register_first e

    pub Steps-no_spare : has_code (codes_of method s.spare) code ≡ false → Steps ext s (command.Register method code) (Refused (refusal.NoExtension code)) (if_up s)
    Steps-no_spare none = Steps-refused ext s (command.Register method code) (refusal.NoExtension code) (register_by false none)

    pub Steps-register : has_code (codes_of method s.spare) code ≡ true → Steps ext s (command.Register method code) ok (managed (command.Register method code) (paid s))
    Steps-register known =
        Steps-managed ext s (command.Register method code) (managed (command.Register method code) (paid s)) up (register_by true known) refl

    abbrev retire_first : Bool → Option (Name × Name) → Option Refusal
    retire_first known user_of =
        first_of (option_map refusal.NoExtension (code_where (not known) code) ∷ option_map (λ user. refusal.InUse user.0 user.1) user_of ∷ None ∷ None ∷ None ∷ [])

    retire_placed : refused ext s (command.Retire method code) ≡ retire_first (has_code (codes_of method s.live) code) (first_use (view s) (command.Retire method code))
    retire_placed = refused_placed ext s (command.Retire method code) false up outside

    pub Steps-no_live : has_code (codes_of method s.live) code ≡ false → Steps ext s (command.Retire method code) (Refused (refusal.NoExtension code)) (if_up s)
    Steps-no_live none =
        Steps-refused ext s (command.Retire method code) (refusal.NoExtension code)
        (retire_placed ∙ ap (λ (b : Bool). retire_first b (first_use (view s) (command.Retire method code))) none)

    pub Steps-retire : has_code (codes_of method s.live) code ≡ true → first_use (view s) (command.Retire method code) ≡ None
        → Steps ext s (command.Retire method code) ok (managed (command.Retire method code) (paid s))
    Steps-retire known unused =
        Steps-managed ext s (command.Retire method code) (managed (command.Retire method code) (paid s)) up
        (retire_placed ∙ ap (λ (b : Bool). retire_first b (first_use (view s) (command.Retire method code))) known ∙ ap (λ (o : Option (Name × Name)). retire_first true o) unused) refl
