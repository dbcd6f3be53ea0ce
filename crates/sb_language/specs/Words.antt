-- Keywords, which are no names.
use Rattle.std.specs.Prelude.{ℕ, codes, List, [], ◌∷◌, Bool}
use Rattle.std.specs.List.{list_any}
use Rattle.std.specs.Str.{bytes_eq}

-- those of all commands, and those that are kept for more of them
abbrev pub keywords : List (List ℕ)
keywords =
    codes "abort" ∷ codes "add" ∷ codes "after" ∷ codes "aggregate" ∷ codes "always" ∷ codes "and" ∷ codes "attach" ∷ codes "attachment" ∷
    codes "begin" ∷ codes "by" ∷ codes "cascade" ∷ codes "check" ∷ codes "checkpoint" ∷ codes "code" ∷ codes "commit" ∷ codes "create" ∷
    codes "deferred" ∷ codes "delete" ∷ codes "desc" ∷ codes "detach" ∷ codes "do" ∷ codes "drop" ∷ codes "entries" ∷ codes "from" ∷
    codes "get" ∷ codes "group" ∷ codes "hashindex" ∷ codes "heap" ∷ codes "insert" ∷ codes "int" ∷ codes "joinindex" ∷ codes "key" ∷
    codes "limit" ∷ codes "lookup" ∷ codes "low" ∷ codes "method" ∷ codes "new" ∷ codes "not" ∷ codes "old" ∷ codes "on" ∷ codes "or" ∷
    codes "range" ∷ codes "refers" ∷ codes "register" ∷ codes "restrict" ∷ codes "retire" ∷ codes "rollback" ∷ codes "rtree" ∷
    codes "savepoint" ∷ codes "scan" ∷ codes "session" ∷ codes "set" ∷ codes "show" ∷ codes "stats" ∷ codes "tables" ∷ codes "temp" ∷
    codes "text" ∷ codes "to" ∷ codes "tree" ∷ codes "treeindex" ∷ codes "trigger" ∷ codes "unique" ∷ codes "update" ∷ codes "upgrade" ∷
    codes "using" ∷ codes "values" ∷ codes "when" ∷ codes "where" ∷ codes "width" ∷ codes "window" ∷ codes "with" ∷ []

-- whether a word is a keyword
unfoldable pub is_keyword : List ℕ → Bool
is_keyword text = list_any (λ keyword. bytes_eq keyword text) keywords
