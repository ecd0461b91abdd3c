-- What the turns of a walk give and keep.
use Rattle.std.proofs.Common.{◌≡◌, ℕ, zero, suc, Bool, true, false, nat_eq, if◌then◌else◌, List, [], ◌∷◌, ◌++◌, Option, Some, None, Result, Ok, Err, IfOk, refl, sym, ap, subst, ◌∙◌, arith, append_assoc}
use Rattle.std.specs.List.{All}
use Rattle.std.specs.Cmp.Lexicographic.{pointwise}
use Rattle.std.proofs.lemmas.List.Elements.{All-nil, All-cons, All-head, All-tail, All-append, All-same}
use Rattle.yarn_base.specs.declared.memory.Memory.{Memory}
use Rattle.yarn_value.specs.declared.fault.RunFault.TheVariants as run_fault
use Rattle.yarn_blocks.specs.declared.tree.OptionItem.{OptionItem}
use Rattle.yarn_blocks.specs.Tree.{Stmts, Nil, Cons, stmts_then}
use Rattle.yarn_blocks.specs.View.{options_of}
use Rattle.yarn_tree.specs.Trees.{NodeTree, FileTree}
use Rattle.yarn_code.specs.declared.event.Event.{Event}
use Rattle.yarn_code.specs.declared.event.Event.TheVariants as event
use Rattle.yarn_code.specs.Moments.{State, Stand, Behaviour, moment, stands, emit, finishes, Faults}
use Rattle.yarn_value.specs.Pairs.{Pairs}
use Rattle.yarn_meaning.specs.Does.{Done, Through, Jumps, Stops, done, showing, and_on, waits, group_line, does_all, does_option}
use Rattle.yarn_code.specs.Answers.{any_open}
use Rattle.yarn_meaning.specs.First.{Placed, nodes_at, nodes_from, first_titled, find, at_node, leaves, after, exits_of, entered, in_node, enters, from, faults_at}
use Rattle.yarn_meaning.specs.Texts.{Table, Tells, TellsAll, said_in, said_in_one, said_in_nodes, said_in_files}
use Rattle.yarn_walker.specs.States.{at, no_hosts}
use Rattle.yarn_walker.specs.Faults.{fault_of}
use Rattle.yarn_walker.specs.Offers.{all_shown}
use Rattle.yarn_walker.specs.Titles.{placed}
use Rattle.yarn_walker.specs.Walk.{Coming, Turned, piece_of, at_group, within_node, with_group, arrives, jumping, leaving}
use Rattle.yarn_walker.specs.declared.ends.FaultAt.{FaultAt}
use Rattle.yarn_walker.specs.declared.offer.Offer.{Offer}
use Rattle.yarn_walker.specs.declared.titles.NodeAt.{NodeAt}
use Rattle.yarn_walker.specs.declared.walk.Seat.TheVariants.{Enters, Finishes, Fails}
use Rattle.yarn_walker.specs.declared.walk.Turn.{Turn}
use Rattle.yarn_walker.specs.declared.walk.Turn.TheVariants as turn
use Rattle.yarn_walker.specs.declared.walk.Walk.{Walk}
use Rattle.yarn_walker.proofs.FuelLemmas.{emit_after, node_agrees, leaves_same}

-- ---- texts

pub All-front : {X : Type 0} (P : X → Type 0) (xs ys : List X) → All P (xs ++ ys) → All P xs
All-front P [] ys h = All-nil P
All-front P (x ∷ xs) ys h = All-cons P x xs (All-head P x (xs ++ ys) h) (All-front P xs ys (All-tail P x (xs ++ ys) h))

pub All-behind : {X : Type 0} (P : X → Type 0) (xs ys : List X) → All P (xs ++ ys) → All P ys
All-behind P [] ys h = h
All-behind P (x ∷ xs) ys h = All-behind P xs ys (All-tail P x (xs ++ ys) h)

first_or_later : (P : Placed → Type 0) (m n : Placed) (later : Option Placed) → P m → (later ≡ Some n → P n) →
    (b : Bool) → (if b then Some m else later) ≡ Some n → P n
first_or_later P m n later first rest true is = let same : m ≡ n = cc in subst P same first
first_or_later P m n later first rest false is = rest is

-- the node that is found is one of them
titled_is_one : (P : Placed → Type 0) (title : List ℕ) (nodes : List Placed) (n : Placed) → All P nodes → first_titled title nodes ≡ Some n → P n
titled_is_one P title [] n h is = absurd (cc)
titled_is_one P title (m ∷ nodes) n h is =
    first_or_later P m n (first_titled title nodes) (All-head P m nodes h) (titled_is_one P title nodes n (All-tail P m nodes h))
    (pointwise nat_eq m.node.title title) is

-- the table has the texts of the node
abbrev IsTold : Table → Placed → Type 0
IsTold table n = TellsAll table (said_in n.node.body)

tells_nodes : (table : Table) (file : ℕ) (nodes : List NodeTree) → TellsAll table (said_in_nodes nodes) → All (IsTold table) (nodes_at file nodes)
tells_nodes table file [] told = All-nil (IsTold table)
tells_nodes table file (n ∷ nodes) told =
    All-cons (IsTold table) (record { node = n; file = file }) (nodes_at file nodes) (All-front (Tells table) (said_in n.body) (said_in_nodes nodes) told)
    (tells_nodes table file nodes (All-behind (Tells table) (said_in n.body) (said_in_nodes nodes) told))

tells_files : (table : Table) (file : ℕ) (files : List FileTree) → TellsAll table (said_in_files files) → All (IsTold table) (nodes_from file files)
tells_files table file [] told = All-nil (IsTold table)
tells_files table file (f ∷ files) told =
    All-append (IsTold table) (nodes_at file f.nodes) (nodes_from (suc file) files)
    (tells_nodes table file f.nodes (All-front (Tells table) (said_in_nodes f.nodes) (said_in_files files) told))
    (tells_files table (suc file) files (All-behind (Tells table) (said_in_nodes f.nodes) (said_in_files files) told))

-- a table with the texts of all files has those of the node of a title
pub found_tells : (table : Table) (title : List ℕ) (files : List FileTree) (n : Placed) →
    find title files ≡ Some n → TellsAll table (said_in_files files) → TellsAll table (said_in n.node.body)
found_tells table title files n is told = titled_is_one (IsTold table) title (nodes_from 0 files) n (tells_files table 0 files told) is

said_then : (a b : Stmts) → said_in (stmts_then a b) ≡ said_in a ++ said_in b
said_then Nil b = refl
said_then (Cons s a) b = ap (λ l. said_in_one s ++ l) (said_then a b) ∙ sym (append_assoc (said_in_one s) (said_in a) (said_in b))

pub tells_then : (table : Table) (a b : Stmts) → TellsAll table (said_in a) → TellsAll table (said_in b) → TellsAll table (said_in (stmts_then a b))
tells_then table a b one two =
    All-same (Tells table) (said_in (stmts_then a b)) (said_in a ++ said_in b) (said_then a b)
    (All-append (Tells table) (said_in a) (said_in b) one two)

-- ---- what is to come

-- a turn of what comes is one of what comes the same way
pub turned_same : (c d : Coming) (t : Turn) (new : Walk) → ((answers : List ℕ) (k : ℕ) → c k answers k ≡ d k answers k) →
    Turned d t new → Turned c t new
turned_same c d (turn.NodeStart title) new same h = λ answers k. same answers k ∙ h answers k
turned_same c d (turn.Line text values) new same h = λ answers k. same answers k ∙ h answers k
turned_same c d (turn.Command text values) new same h = λ answers k. same answers k ∙ h answers k
turned_same c d turn.Options new same h = λ answers k. same answers k ∙ h answers k
turned_same c d (turn.NodeEnd title) new same h = λ answers k. same answers k ∙ h answers k
turned_same c d turn.End new same h = λ answers k. same answers k ∙ h answers k
turned_same c d (turn.Faults f) new same h = λ answers k. same answers k ∙ h answers k

pub ok_turned_same : (c d : Coming) (r : Result Turn Memory) (new : Walk) → ((answers : List ℕ) (k : ℕ) → c k answers k ≡ d k answers k) →
    IfOk r (λ t. Turned d t new) → IfOk r (λ t. Turned c t new)
ok_turned_same c d (Ok t) new same h = turned_same c d t new same h
ok_turned_same c d (Err e) new same h = tt

-- ---- how a node is left

enters_same : (files : List FileTree) (n m : NodeAt) (line : ℕ) (title : List ℕ) → Some (placed m) ≡ find title files → (st : State) (j : ℕ) →
    enters files (from [] files (suc j)) (placed n) line title (piece_of (placed n)) st j ≡ arrives files (suc j) (Enters m) st j
enters_same files n m line title is st j =
    ap (λ o. at_node o (stands (faults_at (placed n) line (run_fault.UnknownNode title)) st)
    (λ to. in_node (from [] files (suc j)) (entered (piece_of (placed n)) to) st) j) (sym is)
    ∙ node_agrees files (placed m) st j

fails_same : (files : List FileTree) (n : NodeAt) (f : FaultAt) (line : ℕ) (title : List ℕ) → None ≡ find title files →
    Faults (fault_of f) ≡ faults_at (placed n) line (run_fault.UnknownNode title) → (st : State) (j : ℕ) →
    enters files (from [] files (suc j)) (placed n) line title (piece_of (placed n)) st j ≡ arrives files (suc j) (Fails f) st j
fails_same files n f line title is one st j =
    ap (λ o. at_node o (stands (faults_at (placed n) line (run_fault.UnknownNode title)) st)
    (λ to. in_node (from [] files (suc j)) (entered (piece_of (placed n)) to) st) j) (sym is)
    ∙ ap (λ x. stands x st j) (sym one)

-- a jump to the title of a node leaves for that node
pub jumping_enters : (files : List FileTree) (n m : NodeAt) (line : ℕ) (title : List ℕ) (store : Pairs) → Some (placed m) ≡ find title files →
    (answers : List ℕ) (k : ℕ) → jumping files n line title store k answers k ≡ leaving files n line (Enters m) store k answers k
jumping_enters files n m line title store is answers k =
    leaves_same (placed n) line (at store answers) _ _ k
    (λ st j e. subst (λ i. enters files (from [] files i) (placed n) line title (piece_of (placed n)) st j ≡ arrives files i (Enters m) st j) (sym e)
    (enters_same files n m line title is st j))

-- a jump to no node's title leaves for a fault
pub jumping_fails : (files : List FileTree) (n : NodeAt) (f : FaultAt) (line : ℕ) (title : List ℕ) (store : Pairs) → None ≡ find title files →
    Faults (fault_of f) ≡ faults_at (placed n) line (run_fault.UnknownNode title) →
    (answers : List ℕ) (k : ℕ) → jumping files n line title store k answers k ≡ leaving files n line (Fails f) store k answers k
jumping_fails files n f line title store is one answers k =
    leaves_same (placed n) line (at store answers) _ _ k
    (λ st j e. subst (λ i. enters files (from [] files i) (placed n) line title (piece_of (placed n)) st j ≡ arrives files i (Fails f) st j) (sym e)
    (fails_same files n f line title is one st j))

-- ---- how a group is shown

-- where no option can be chosen, the run faults behind it
pub group_fails : (files : List FileTree) (n : NodeAt) (os : List OptionItem) (offers : List Offer) (rest : Stmts) (store : Pairs) (f : FaultAt) →
    any_open (all_shown offers) ≡ false → Faults (fault_of f) ≡ faults_at (placed n) (group_line (options_of os)) run_fault.NoOpenOption →
    (answers : List ℕ) (k : ℕ) → with_group files n os offers rest store k answers k ≡
    emit (moment (event.Options (all_shown offers)) (at store answers)) (stands (Faults (fault_of f)) (at store answers)) k
group_fails files n os offers rest store f closed fault answers k = rw (closed, fault) refl

-- else it asks for an answer
pub group_asks : (files : List FileTree) (n : NodeAt) (os : List OptionItem) (offers : List Offer) (rest : Stmts) (store : Pairs) →
    (answers : List ℕ) (k : ℕ) → with_group files n os offers rest store k answers k ≡
    emit (moment (event.Options (all_shown offers)) (at store answers))
    (λ j. at_group files j (placed n) (options_of os) (all_shown offers) rest (at store answers) j) k
group_asks files n os offers rest store answers k =
    emit_after files (placed n) (moment (event.Options (all_shown offers)) (at store answers))
    (and_on (waits (group_line (options_of os)) (all_shown offers) (at store answers) (λ m st. does_option no_hosts (options_of os) m st))
    rest (λ st. does_all no_hosts rest st)) k

-- ---- what the statements of a node do

finishes_same : (files : List FileTree) (n : NodeAt) (line : ℕ) (st : State) (k : ℕ) →
    leaves (placed n) line st finishes k ≡ leaves (placed n) line st (λ st1. arrives files k Finishes st1) k
finishes_same files n line st zero = refl
finishes_same files n line st (suc k) = refl

-- what is done where a group is shown, with the statements behind it
abbrev group_done : List OptionItem → List Offer → Stmts → State → Done
group_done os offers rest st =
    showing (event.Options (all_shown offers)) st
    (and_on (waits (group_line (options_of os)) (all_shown offers) st (λ m st1. does_option no_hosts (options_of os) m st1)) rest
    (λ st1. does_all no_hosts rest st1))

module _ (files : List FileTree) (n : NodeAt) (old : Stmts) (before store : Pairs) where
  -- they give an event, and the walk goes on with the rest
  pub event_comes : (e : Event) (rest : Stmts) →
      ((answers : List ℕ) → does_all no_hosts old (at before answers) ≡ showing e (at store answers) (does_all no_hosts rest (at store answers))) →
      (answers : List ℕ) (k : ℕ) →
      within_node files n old before k answers k ≡ emit (moment e (at store answers)) (λ j. within_node files n rest store j answers j) k
  event_comes e rest does_so answers k =
      ap (λ d. after d (exits_of files (from [] files k) (piece_of (placed n))) k) (does_so answers)
      ∙ emit_after files (placed n) (moment e (at store answers)) (does_all no_hosts rest (at store answers)) k

  -- they show a group
  pub group_comes : (os : List OptionItem) (offers : List Offer) (rest : Stmts) →
      ((answers : List ℕ) → does_all no_hosts old (at before answers) ≡ group_done os offers rest (at store answers)) → (answers : List ℕ) (k : ℕ) →
      within_node files n old before k answers k ≡ with_group files n os offers rest store k answers k
  group_comes os offers rest does_so answers k = ap (λ d. after d (exits_of files (from [] files k) (piece_of (placed n))) k) (does_so answers)

  -- they jump
  pub jump_comes : (line : ℕ) (title : List ℕ) →
      ((answers : List ℕ) → does_all no_hosts old (at before answers) ≡ done (Jumps line title) (at store answers)) →
      (answers : List ℕ) (k : ℕ) → within_node files n old before k answers k ≡ jumping files n line title store k answers k
  jump_comes line title does_so answers k = ap (λ d. after d (exits_of files (from [] files k) (piece_of (placed n))) k) (does_so answers)

  -- they end, or stop, and the run is over behind the node
  pub stop_comes : (line : ℕ) → ((answers : List ℕ) → does_all no_hosts old (at before answers) ≡ done (Stops line) (at store answers)) →
      (answers : List ℕ) (k : ℕ) → within_node files n old before k answers k ≡ leaving files n line Finishes store k answers k
  stop_comes line does_so answers k =
      ap (λ d. after d (exits_of files (from [] files k) (piece_of (placed n))) k) (does_so answers) ∙ finishes_same files n line (at store answers) k

  pub through_comes : ((answers : List ℕ) → does_all no_hosts old (at before answers) ≡ done Through (at store answers)) →
      (answers : List ℕ) (k : ℕ) → within_node files n old before k answers k ≡ leaving files n n.node.now.end_line Finishes store k answers k
  through_comes does_so answers k =
      ap (λ d. after d (exits_of files (from [] files k) (piece_of (placed n))) k) (does_so answers) ∙ finishes_same files n n.node.now.end_line (at store answers) k
