-- What items leave of a store, whatever it holds.
use Rattle.std.specs.Prelude.{◌≡◌, Bool, true, false, not, ◌&&◌, is_some, List, ◌∷◌}
use Rattle.sb_plain.specs.declared.reply.Reply.{Reply}
use Rattle.sb_grammar.specs.Columns.{Item, Says, Bad}
use Rattle.sb_txn.specs.Clauses.{LeavesWanted}
use Rattle.sb_opening.specs.Calls.{KeepsWanted}
use Rattle.sb_opening.specs.Ends.{is_open_behind}
use Rattle.sb_opening.specs.Session.{Session}
use Rattle.sb_opening.specs.Sessions.{parts_of, sizes_of}
use Rattle.sb_execution.specs.Serving.{may_have_committed}
use Rattle.sb_kernel.specs.World.{World, At}

-- ---- one item, inside of a transaction or not
-- with this reply it may have committed a database
abbrev pub may_commit : Item → (inside : Bool) → Reply → Bool
may_commit (Says c) inside reply = may_have_committed c inside reply
may_commit (Bad column) inside reply = false

-- a transaction is open behind it
abbrev pub is_open_by : Item → (inside : Bool) → Reply → Bool
is_open_by (Says c) inside reply = is_open_behind c inside reply
is_open_by (Bad column) inside reply = inside

-- ---- items
-- none of them can have committed a database
abbrev pub commit_none : (inside : Bool) → List Item → List Reply → Bool
commit_none inside (item ∷ items) (reply ∷ replies) = not (may_commit item inside reply) && commit_none (is_open_by item inside reply) items replies
commit_none inside _ _ = true

-- a transaction is open behind them
abbrev pub is_open_after : (inside : Bool) → List Item → List Reply → Bool
is_open_after inside (item ∷ items) (reply ∷ replies) = is_open_after (is_open_by item inside reply) items replies
is_open_after inside _ _ = inside

-- The sizes stay. Unless the session is down, a transaction is open where the replies say so. Where no item can have committed a database, what was
-- wanted of the pages is kept.
pub record Keeps {B D : Type 0} (w : World B D) (items : List Item) (replies : List Reply) (first now : D) (x y : Session B) : Type 0 where
  pub sizes : sizes_of y ≡ sizes_of x
  pub opened : y.down ≡ false → is_some y.open ≡ is_open_after (is_some x.open) items replies
  pub wanted : commit_none (is_some x.open) items replies ≡ true → KeepsWanted (parts_of w.told w.len first x) (parts_of w.told w.len now y)

-- once the session is closed, a crash has left what was wanted
abbrev pub KeepsOut : {B D : Type 0} → World B D → List Item → List Reply → At B D → D → Type 0
KeepsOut w items replies first now =
    commit_none (is_some first.session.open) items replies ≡ true
    → LeavesWanted (parts_of w.told w.len first.disk first.session) (parts_of w.told w.len now first.session)
