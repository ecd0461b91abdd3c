-- The pass of a checker: the shapes that come to each instruction, filled forward.
use Rattle.std.specs.Prelude.{ℕ, ◌+◌, List, [], ◌∷◌, length, map, set, get_or, take, replicate, nat_eq, ltb, leb, Bool, true, false, ◌&&◌, if◌then◌else◌, Option, Some, None, slice_get, Result, Ok, Err}
use Rattle.std.specs.Cmp.Lexicographic.{pointwise}
use Rattle.std.specs.Option.{option_and_then}
use Rattle.yarn_value.specs.Rows.{same_kind}
use Rattle.yarn_code.specs.declared.program.Instr.{Instr}
use Rattle.yarn_code.specs.declared.program.Coded.{Coded}
use Rattle.yarn_code.specs.declared.program.CodeNode.{CodeNode}
use Rattle.yarn_code.specs.declared.program.Program.{Program}
use Rattle.yarn_value.specs.declared.value.Kind.{Kind}
use Rattle.yarn_value.specs.Signatures.{arity_of}
use Rattle.yarn_check.specs.Shapes.{ShapeEntry, Of, Null, Destination, Shape, shape, Goal, flow, kind_under, holes_under, Shapes}
use Rattle.yarn_check.specs.Faults.{CheckFault, BadLabel, BackwardJump, UnknownVariable, UnknownFunction, UnknownLine, Count, label_of, variable_of, call_of, line_of, NodeFault, Shapeless, Deep, told}

abbrev pub same_entry : ShapeEntry → ShapeEntry → Bool
same_entry (Of k) (Of l) = same_kind k l
same_entry Null Null = true
same_entry (Destination a) (Destination b) = pointwise nat_eq a b
same_entry _ _ = false

abbrev pub same_shape : Shape → Shape → Bool
same_shape s t = pointwise same_entry s.entries t.entries && pointwise nat_eq s.pending t.pending

-- what came to an instruction so far: no shape, one, or two that differ
pub data Coming : Type 0 where
  Nothing : Coming
  Alone : Shape → Coming
  Several : Coming

abbrev pub and_shape : Shape → Coming → Coming
and_shape s Nothing = Alone s
and_shape s (Alone t) = if same_shape t s then Alone t else Several
and_shape s Several = Several

abbrev pub put_there : Goal → List Coming → Option Coming → Option (List Coming)
put_there g cells None = None
put_there g cells (Some cell) = Some (set cells g.place (and_shape g.shape cell))

-- the goal of the instruction at that place, put where it goes; none where that isn't later in the node
abbrev pub put : ℕ → Goal → List Coming → Option (List Coming)
put place g cells = if ltb place g.place then put_there g cells (slice_get cells g.place) else None

abbrev pub put_all : ℕ → List Goal → List Coming → Option (List Coming)
put_all place [] cells = Some cells
put_all place (g ∷ gs) cells = option_and_then (λ after. put_all place gs after) (put place g cells)

pub data Stepped : Type 0 where
  Moved : List Coming → Stepped
  Stopped : NodeFault → Stepped

abbrev pub is_small : Shape → Bool
is_small s = leb (length s.entries) 2048 && leb (length s.pending) 64

abbrev pub sized : Shape → Option (List Coming) → Stepped
sized s None = Stopped Shapeless
sized s (Some cells) = if is_small s then Moved cells else Stopped Deep

-- one instruction, by what came to it
abbrev pub step : Program → Instr → ℕ → List Coming → Coming → Stepped
step p i place cells Nothing = Moved cells
step p i place cells (Alone s) = sized s (option_and_then (λ goals. put_all place goals cells) (flow p i place s.entries s.pending))
step p i place cells Several = Stopped Shapeless

pub data Walked : Type 0 where
  Ended : List Coming → Walked
  Faulted : NodeFault → ℕ → Walked

abbrev pub go_on : ℕ → Stepped → (List Coming → Walked) → Walked
go_on place (Moved cells) go = go cells
go_on place (Stopped f) go = Faulted f place

-- the instructions from a place on
abbrev pub walk : Program → List Coded → ℕ → List Coming → Walked
walk p [] place cells = Ended cells
walk p (c ∷ cs) place cells = go_on place (step p c.instr place cells (get_or cells place Nothing)) (λ after. walk p cs (place + 1) after)

abbrev pub beginning : ℕ → List Coming
beginning n = set (replicate n Nothing) 0 (Alone (shape [] []))

-- the pass over a node
abbrev pub pass : Program → CodeNode → Walked
pass p n = walk p n.code 0 (beginning (length n.code))

abbrev pub the_shape : Coming → Option Shape
the_shape Nothing = None
the_shape (Alone s) = Some s
the_shape Several = None

abbrev pub shapes_in : List Coming → Shapes
shapes_in cells = map the_shape cells

-- what came to a place, where a walk ended before it
abbrev pub came_at : Walked → ℕ → Option Shape
came_at (Ended cells) place = the_shape (get_or cells place Nothing)
came_at (Faulted f at) place = None

-- the shape to which a pass over the instructions before a place comes
abbrev pub came_to : Program → List Coded → ℕ → Option Shape
came_to p code place = came_at (walk p (take place code) 0 (beginning (length code))) place

-- ---- the first look

abbrev pub unless : Bool → CheckFault → Option CheckFault → Option CheckFault
unless true f rest = rest
unless false f rest = Some f

abbrev pub label_is_in : CodeNode → Option ℕ → Bool
label_is_in n None = true
label_is_in n (Some label) = ltb label (length n.code)

abbrev pub label_is_later : ℕ → Option ℕ → Bool
label_is_later place None = true
label_is_later place (Some label) = ltb place label

abbrev pub is_known : Option Kind → Bool
is_known None = false
is_known (Some k) = true

abbrev pub unknown_variable : Program → Option (List ℕ) → Option CheckFault → Option CheckFault
unknown_variable p None rest = rest
unknown_variable p (Some name) rest = unless (is_known (kind_under p name)) (UnknownVariable name) rest

abbrev pub is_count : ℕ → Option ℕ → Bool
is_count count None = false
is_count count (Some n) = nat_eq n count

abbrev pub unknown_count : (List ℕ → Option ℕ) → (List ℕ → CheckFault) → Option Count → Option CheckFault → Option CheckFault
unknown_count under fault None rest = rest
unknown_count under fault (Some c) rest = unless (is_count c.count (under c.name)) (fault c.name) rest

abbrev pub look : Program → CodeNode → ℕ → ℕ → Instr → Option CheckFault
look p n node place i =
    unless (label_is_in n (label_of i)) (BadLabel node place)
    (unless (label_is_later place (label_of i)) (BackwardJump node place)
    (unknown_variable p (variable_of i)
    (unknown_count (arity_of p.functions) UnknownFunction (call_of i)
    (unknown_count (holes_under p.lines) UnknownLine (line_of i) None))))

abbrev pub if_none : Option CheckFault → Option CheckFault → Option CheckFault
if_none None rest = rest
if_none (Some f) rest = Some f

-- the first fault of items that stand from a place on
abbrev pub first_of : {A : Type 0} → (ℕ → A → Option CheckFault) → ℕ → List A → Option CheckFault
first_of fault place [] = None
first_of fault place (x ∷ xs) = if_none (fault place x) (first_of fault (place + 1) xs)

abbrev pub look_node : Program → ℕ → CodeNode → Option CheckFault
look_node p node n = first_of (λ place (c : Coded). look p n node place c.instr) 0 n.code

-- ---- the program

abbrev pub and_shapes : Shapes → Result (List Shapes) CheckFault → Result (List Shapes) CheckFault
and_shapes shapes (Ok rest) = Ok (shapes ∷ rest)
and_shapes shapes (Err f) = Err f

abbrev pub and_node : ℕ → Walked → Result (List Shapes) CheckFault → Result (List Shapes) CheckFault
and_node node (Ended cells) rest = and_shapes (shapes_in cells) rest
and_node node (Faulted f place) rest = Err (told f node place)

abbrev pub pass_nodes : Program → ℕ → List CodeNode → Result (List Shapes) CheckFault
pass_nodes p node [] = Ok []
pass_nodes p node (n ∷ ns) = and_node node (pass p n) (pass_nodes p (node + 1) ns)

abbrev pub behind_look : Option CheckFault → Result (List Shapes) CheckFault → Result (List Shapes) CheckFault
behind_look None rest = rest
behind_look (Some f) rest = Err f

-- the shapes of all nodes, or the fault
abbrev pub check : Program → Result (List Shapes) CheckFault
check p = behind_look (first_of (look_node p) 0 p.nodes) (pass_nodes p 0 p.nodes)
