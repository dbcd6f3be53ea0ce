-- A command that no test refuses may be read, by a relation that is open.
use Rattle.std.proofs.Common.{◌≡◌, ℕ, ◌&&◌, Bool, true, false, List, [], ◌∷◌, Option, Some, None, is_some, is_none, refl, ap}
use Rattle.sb_relation.specs.Db.{Name, Relation, Attached, Db, relation_at, schema_at}
use Rattle.sb_relation.specs.Fits.{first_missing}
use Rattle.sb_fold.specs.Building.{rule_at}
use Rattle.sb_plain.specs.declared.command.Command.{Command}
use Rattle.sb_plain.specs.declared.command.Command.TheVariants as command
use Rattle.sb_plain.specs.Refusing.{is_range, refused}
use Rattle.sb_plain.specs.State.{State, view}
use Rattle.sb_registry.specs.Boxes.{Meanings}
use Rattle.sb_drive.specs.Slots.{Slots}
use Rattle.sb_standing.specs.Standing.{Keeps}
use Rattle.sb_standing.specs.Tables.{Kept}
use Rattle.sb_engine.specs.OpenRelation.{OpenRelation}
use Rattle.sb_engine.specs.Opened.{IsDurable}
use Rattle.sb_engine.specs.Working.{AreOpened, IsOpened, extensions_of, open_at}
use Rattle.sb_engine.proofs.OpenedLemmas.{open_at-all, open_at-name}
use Rattle.sb_reads.specs.Reads.{IsThere, MayRead}
use Rattle.sb_reads.specs.Stores.{KeepsOpen}
use Rattle.sb_reads.proofs.StoresLemmas.{KeepsOpen-opened}
use Rattle.sb_statements.proofs.PassedLemmas.{found_first, not_some, passed, some_of}
use Rattle.sb_execution.proofs.SeenLemmas.{described}

-- the open relation of a name is that of the database
pub keeps-open : (m : Meanings) (root : ℕ) (s : Slots) (gone : List ℕ) (kept : List Kept) (opened : List OpenRelation) (name : Name) (one : OpenRelation) → Keeps m IsDurable root s gone kept
    → AreOpened m kept opened → open_at opened name ≡ Some one → (r : Relation) × KeepsOpen m root s kept r one
keeps-open m root s gone kept opened name one keeps are at =
    KeepsOpen-opened m root s gone kept name one keeps (open_at-all (IsOpened m kept) opened name one are at).is (open_at-name opened name one at) (described m kept opened name one are at)

is_there : (db : Db) (relation : Name) (names : List Name) → first_missing db (relation ∷ names) ≡ None → IsThere db relation
is_there db relation names none = ap (λ (o : Option Relation). is_some o) (found_first (relation_at db) relation names none).0.1

both_true : (a b : Bool) → (a && b) ≡ true → a ≡ true
both_true true b is = refl
both_true false b is = is

pub may-read : (m : Meanings) (s : State) (c : Command) → refused (extensions_of m) s c ≡ None → MayRead (view s) c
may-read m s (command.Get relation at) none = is_there (view s) relation [] (passed (extensions_of m) s (command.Get relation at) none).there
may-read m s (command.Scan relation after limit) none = is_there (view s) relation [] (passed (extensions_of m) s (command.Scan relation after limit) none).there
may-read m s (command.Lookup relation name values) none =
    let p = passed (extensions_of m) s (command.Lookup relation name values) none in (is_there (view s) relation [] p.there, p.fits)
may-read m s (command.Range relation name low high) none =
    let p = passed (extensions_of m) s (command.Range relation name low high) none in (
      is_there (view s) relation [] p.there,
      both_true (is_range (schema_at (view s) relation) (rule_at (view s) relation name) low) (is_range (schema_at (view s) relation) (rule_at (view s) relation name) high) p.fits,
    )
may-read m s (command.Entries relation name) none =
    let p = passed (extensions_of m) s (command.Entries relation name) none in (
      is_there (view s) relation [] p.there,
      ap (λ (o : Option Attached). is_some o) (some_of (rule_at (view s) relation name) (not_some (is_none (rule_at (view s) relation name)) name p.named)).1,
    )
may-read m s (command.Show relation) none = is_there (view s) relation [] (passed (extensions_of m) s (command.Show relation) none).there
may-read m s (command.Create relation method schema key) none = tt
may-read m s (command.Drop relation) none = tt
may-read m s (command.Attach relation name rule) none = tt
may-read m s (command.Detach relation name) none = tt
may-read m s (command.Insert relation values) none = tt
may-read m s (command.Delete relation at) none = tt
may-read m s (command.Update relation at values) none = tt
may-read m s (command.Act action) none = tt
may-read m s (command.Register method code) none = tt
may-read m s (command.Retire method code) none = tt
may-read m s command.Begin none = tt
may-read m s command.Commit none = tt
may-read m s command.Abort none = tt
may-read m s (command.Savepoint name) none = tt
may-read m s (command.Rollback name) none = tt
may-read m s command.Tables none = tt
may-read m s command.Checkpoint none = tt
