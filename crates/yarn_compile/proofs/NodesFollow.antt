-- The machine follows a project from piece to piece.
use Rattle.std.proofs.Common.{◌≡◌, ℕ, zero, suc, ◌+◌, Bool, true, false, if◌then◌else◌, List, [], ◌∷◌, length, map, nat_eq, Option, Some, None, All, refl, sym, ap, ◌∙◌, subst, arith}
use Rattle.std.specs.Cmp.Lexicographic.{pointwise}
use Rattle.std.specs.Option.{option_map}
use Rattle.std.proofs.lemmas.Slice.Eq.{bytes_eq-Decides}
use Rattle.yarn_base.specs.declared.SourceFile.{SourceFile}
use Rattle.yarn_value.specs.declared.value.Kind.TheVariants as kind
use Rattle.yarn_value.specs.declared.fault.RunFault.TheVariants as run
use Rattle.yarn_value.specs.declared.signature.Signature.{Signature}
use Rattle.yarn_value.specs.Pairs.{Pairs, with_missing}
use Rattle.yarn_value.specs.Visits.{count_name}
use Rattle.yarn_nodes.specs.declared.node.FileLines.{FileLines}
use Rattle.yarn_tree.specs.Laws.{ReadExactly}
use Rattle.yarn_tree.specs.Trees.{FileTree, grown}
use Rattle.yarn_types.specs.declared.typed.TypedName.{TypedName}
use Rattle.yarn_code.specs.declared.event.Event.TheVariants as event
use Rattle.yarn_code.specs.declared.program.Coded.{Coded}
use Rattle.yarn_code.specs.declared.program.Program.{Program}
use Rattle.yarn_code.specs.Parts.{pairs_of, code_titled, line_at}
use Rattle.yarn_code.specs.Kinds.{HasKind, KeepsKinds}
use Rattle.yarn_code.specs.Moments.{State, Ended, stands, finishes}
use Rattle.yarn_code.specs.MachineState.{Here, Stack, To, Ends, Starts, Rests, MachineState, machine, here_in, moved_to, entry}
use Rattle.yarn_code.specs.MachineState as states
use Rattle.yarn_code.specs.Machine.{Quiet, Shows, when_some, breaks, enters_to, next}
use Rattle.yarn_code.specs.Runs.{Course, outcome_of, MFirst}
use Rattle.yarn_meaning.specs.Does.{does_all}
use Rattle.yarn_meaning.specs.First.{after, Placed, nodes_from, first_titled, find, at_node, faults_at, leaves, Piece, Going, entered, in_node, enters, exits_of, from, starting, first_of}
use Rattle.yarn_meaning.specs.Variables.{variables_of, first_store}
use Rattle.yarn_kinds.specs.Typed.{AreAccepted}
use Rattle.yarn_kinds.specs.Kept.{IsSound, titles_of, beginning}
use Rattle.yarn_kinds.proofs.Typed.{IsFitting, accepted_typed}
use Rattle.yarn_kinds.proofs.Begins.{held_is_sound}
use Rattle.yarn_kinds.proofs.Begun.{begun_held}
use Rattle.yarn_compile.specs.Code.{Terms, terms_of, program_of, variables_for, end_code, size_all, stmts_code, body_code, node_code}
use Rattle.yarn_compile.specs.Correct.{Gives, Means, SameMoments}
use Rattle.yarn_compile.proofs.Follows.{Stands, front_stands, back_stands, stands_as, whole_stands, running, coded_node, Site, here_of, scope_in, ComesTo, Follows, quiet, shows, breaks_here, at_node_code}
use Rattle.yarn_compile.proofs.Sound.{FitsAll}
use Rattle.yarn_compile.proofs.CodeSizes.{length-stmts}
use Rattle.yarn_compile.proofs.Leaving.{stop_follows}
use Rattle.yarn_compile.proofs.Ways.{Outs, Way}
use Rattle.yarn_compile.proofs.StatementsFollow.{stmts_follow}
use Rattle.yarn_compile.proofs.Kept.{puts, PlacedTexts, fits_node, counts_node}
use Rattle.yarn_compile.proofs.AskedFunctions.{known_functions}
use Rattle.yarn_compile.proofs.Runs.{agree}

found_title : (title : List ℕ) (ns : List Placed) (node : Placed) → first_titled title ns ≡ Some node → node.node.title ≡ title
found_title title [] node e = cc
found_title title (x ∷ ns) node e = by_title (pointwise nat_eq x.node.title title) refl e (λ e1. found_title title ns node e1)
  where
    by_title : (b : Bool) → pointwise nat_eq x.node.title title ≡ b → (if b then Some x else first_titled title ns) ≡ Some node →
        (first_titled title ns ≡ Some node → node.node.title ≡ title) → node.node.title ≡ title
    by_title true eb e1 more = let same : x ≡ node = cc in ap (λ y. y.node.title) (sym same) ∙ (bytes_eq-Decides x.node.title title).0 eb
    by_title false eb e1 more = more e1

module _ (terms : Terms) where
  -- the code of a node is found as the node is
  coded_titled : (title : List ℕ) (ns : List Placed) →
      code_titled title (map (node_code terms) ns) ≡ option_map (node_code terms) (first_titled title ns)
  coded_titled title [] = refl
  coded_titled title (x ∷ ns) = by_title (pointwise nat_eq x.node.title title) (coded_titled title ns)
    where
      by_title : (b : Bool) → code_titled title (map (node_code terms) ns) ≡ option_map (node_code terms) (first_titled title ns) →
          (if b then Some (node_code terms x) else code_titled title (map (node_code terms) ns)) ≡ option_map (node_code terms)
          (if b then Some x else first_titled title ns)
      by_title true e = refl
      by_title false e = e

-- the variables of a program are those of its project
pairs_same : (terms : Terms) (ps : Pairs) → pairs_of (variables_for terms ps) ≡ ps
pairs_same terms [] = refl
pairs_same terms (p ∷ ps) = ap (λ l. p ∷ l) (pairs_same terms ps)

-- what is known of files: a typing fits them, and their texts are templates
pub record AreKnown (signatures : List Signature) (entries : List TypedName) (files : List FileTree) : Type 0 where
  pub typed : IsFitting signatures entries files
  pub texts : All PlacedTexts (nodes_from 0 files)

module _ (signatures : List Signature) (entries : List TypedName) (files : List FileTree) (known : AreKnown signatures entries files) where
  abbrev terms : Terms
  terms = terms_of signatures entries files

  abbrev p : Program
  p = program_of terms files

  abbrev Fine : Pairs → Type 0
  Fine = IsSound entries (titles_of files)

  here_code : (title : List ℕ) (o : Option Placed) → find title files ≡ o → code_titled title p.nodes ≡ option_map (node_code terms) o
  here_code title o e = coded_titled terms title (nodes_from 0 files) ∙ ap (option_map (node_code terms)) e

  fitting : (node : Placed) → find node.node.title files ≡ Some node → FitsAll terms node.node.body
  fitting node e = fits_node terms files known.typed.fits known.texts node.node.title node e

  abbrev site_at : (node : Placed) → find node.node.title files ≡ Some node → Site terms p
  site_at node e =
      record {
        node = node;
        code = body_code terms node.node;
        found = here_code node.node.title (Some node) e;
        known = λ pc count line name h none. known_functions terms p.nodes node.node.title (coded_node node (body_code terms node.node))
            (here_code node.node.title (Some node) e) pc count line name h none;
      }

  -- where both are: a node of the files
  record Stay : Type 0 where
    node : Placed
    found : find node.node.title files ≡ Some node

  abbrev site_of : Stay → Site terms p
  site_of stay = site_at stay.node stay.found

  abbrev piece_of : Stay → Piece
  piece_of stay = record { node = stay.node }

  -- the machine follows each piece
  abbrev Pieces : ℕ → Type 0
  Pieces fuel = (stay : Stay) (st : State) → Fine st.store →
      Follows p fuel (running (here_of (site_of stay)) 0 [] [] st) (from signatures files fuel (piece_of stay) st)

  -- the end of a body stands behind its statements
  end_stands : (node : Placed) →
      Stands (body_code terms node.node) (0 + size_all terms node.node.title node.node.body) (end_code terms node.node.title node.node.end_line)
  end_stands node =
      let t : List ℕ = node.node.title in
      let code : List Coded = body_code terms node.node in
      let cs = stmts_code terms t 0 node.node.body in
      let ls = length-stmts terms t 0 node.node.body in
      let es : 0 + length cs ≡ 0 + size_all terms t node.node.body = omega arith in
      stands_as es (back_stands cs (end_code terms t node.node.end_line) (whole_stands code))

  body_stands : (node : Placed) → Stands (body_code terms node.node) 0 (stmts_code terms node.node.title 0 node.node.body)
  body_stands node = front_stands (stmts_code terms node.node.title 0 node.node.body) (end_code terms node.node.title node.node.end_line)
      (whole_stands (body_code terms node.node))

  module _ (fuel : ℕ) (pieces : Pieces fuel) where
    node_follows : (stay : Stay) (st : State) → Fine st.store →
        Follows p (suc fuel) (states.enters (here_of (site_of stay)) st) (in_node (from signatures files fuel) (piece_of stay) st)
    node_follows stay st good =
        let here : Here = here_of (site_of stay) in
        let t : List ℕ = stay.node.node.title in
        shows p fuel _ (machine here 0 [] [] (Rests Starts) st) (event.NodeStart t) _
        (at_node_code terms p (site_of stay) (λ c. Shows (event.NodeStart t) (machine here 0 [] [] (Rests Starts) st)))
        (quiet p fuel _ (running here 0 [] [] st) _ refl (pieces stay st good))

    -- a step that enters a node, if it is there
    enters_follow : (site : Site terms p) (w w1 : MachineState) (line : ℕ) (title : List ℕ) (piece : Piece) → Fine w1.state.store →
        next p w ≡ enters_to p (coded_node site.node site.code) line title w1 →
        Follows p (suc fuel) w (enters files (from signatures files fuel) site.node line title piece w1.state)
    enters_follow site w w1 line title piece good e = by_node (find title files) refl
      where
        by_node : (o : Option Placed) → find title files ≡ o →
            Follows p (suc fuel) w (enters files (from signatures files fuel) site.node line title piece w1.state)
        by_node None e1 =
            subst (λ o. Follows p (suc fuel) w
            (at_node o (stands (faults_at site.node line (run.UnknownNode title)) w1.state)
            (λ to. in_node (from signatures files fuel) (entered piece to) w1.state))) (sym e1)
            (breaks_here terms p site (suc fuel) w w1 line (run.UnknownNode title)
            (e ∙ ap (λ o. when_some o (breaks (coded_node site.node site.code) line (run.UnknownNode title) w1)
            (λ to. Quiet (states.enters (moved_to title w1.here) w1.state))) (here_code title None e1)))
        by_node (Some to) e1 =
            let named : to.node.title ≡ title = found_title title (nodes_from 0 files) to e1 in
            let e' : find to.node.title files ≡ Some to = ap (λ x. find x files) named ∙ e1 in
            let stay : Stay = record {
              node = to;
              found = e';
            } in
            subst (λ o. Follows p (suc fuel) w
            (at_node o (stands (faults_at site.node line (run.UnknownNode title)) w1.state)
            (λ to1. in_node (from signatures files fuel) (entered piece to1) w1.state))) (sym e1)
            (quiet p (suc fuel) w (states.enters (moved_to title w1.here) w1.state) _
            (e ∙ ap (λ o. when_some o (breaks (coded_node site.node site.code) line (run.UnknownNode title) w1)
            (λ to1. Quiet (states.enters (moved_to title w1.here) w1.state))) (here_code title (Some to) e1))
            (subst (λ x. Follows p (suc fuel) (states.enters (moved_to x w1.here) w1.state)
            (in_node (from signatures files fuel) (entered piece to) w1.state)) named (node_follows stay w1.state good)))

    module _ (stay : Stay) where
      abbrev site : Site terms p
      site = site_of stay

      abbrev t : List ℕ
      t = stay.node.node.title

      abbrev go : Going
      go = from signatures files fuel

      counted : (store : Pairs) → Fine store → HasKind store (count_name t) kind.Number
      counted store good = counts_node entries files store good t stay.node stay.found

      end_follows : (pc line : ℕ) (stack : Stack) (st : State) → Fine st.store → Stands site.code pc (end_code terms t line) →
          Follows p (suc fuel) (running (here_of site) pc stack [] st) (leaves stay.node line st finishes)
      end_follows pc line stack st good laid = stop_follows terms p site (suc fuel) pc line stack st (counted st.store good) laid

      abbrev piece : Piece
      piece = piece_of stay

      goes_follow : (title : List ℕ) (pc line : ℕ) (st : State) → line_at (coded_node stay.node (body_code terms stay.node.node)) pc ≡ line →
          Fine st.store →
          Follows p (suc fuel) (machine (here_of site) pc [] [] (Rests (Ends (To title))) st) (enters files go stay.node line title piece st)
      goes_follow title pc line st at_line good =
          let w : MachineState = machine (here_of site) pc [] [] (Rests (Ends (To title))) st in
          enters_follow site w w line title piece good
          (at_node_code terms p site (λ c. enters_to p c (line_at c pc) title w) ∙ ap
          (λ l. enters_to p (coded_node site.node site.code) l title w) at_line)

      abbrev outs : Outs terms p site (suc fuel) Fine
      outs = record {
        exits = exits_of files go piece;
        onward = λ line title st. enters files go stay.node line title piece st;
        jumps = λ line title st. refl;
        goes = goes_follow;
        stops = λ line st. refl;
        halts = λ line h st. refl;
        keeps = λ store good. good.keeps;
        counts = counted;
        puts = puts entries (titles_of files);
      }

      piece_follows : (st : State) → Fine st.store →
          Follows p (suc fuel) (running (here_of site) 0 [] [] st) (after (does_all (scope_in site) stay.node.node.body st) (exits_of files go piece))
      piece_follows st good =
          let way : Way terms p site (suc fuel) Fine outs (0 + size_all terms t stay.node.node.body) [] = record {
            next = λ st1. leaves stay.node stay.node.node.end_line st1 finishes;
            follows = λ st1 good1. end_follows _ stay.node.node.end_line [] st1 good1 (end_stands stay.node);
          } in
          stmts_follow terms p site (suc fuel) Fine outs stay.node.node.body 0 [] (fitting stay.node stay.found) (body_stands stay.node) st way good

    next_piece : Pieces (suc fuel)
    next_piece stay st good = piece_follows stay st good

  pieces : (fuel : ℕ) → Pieces fuel
  pieces zero stay st good = record { by = λ k lt. absurd (omega arith) }
  pieces (suc fuel) stay st good = next_piece fuel (pieces fuel) stay st good

  code_comes : (start : List ℕ) (node : Placed) (st : State) (k : ℕ) → find start files ≡ Some node → Fine st.store →
      ComesTo p (states.enters (here_in start) st) k (first_of signatures files start st (suc k))
  code_comes start node st k e good =
      let named : node.node.title ≡ start = found_title start (nodes_from 0 files) node e in
      let stay : Stay = record {
        node = node;
        found = ap (λ x. find x files) named ∙ e;
      } in
      let f = node_follows k (pieces k) stay st good in
      subst (λ o. ComesTo p (states.enters (here_in start) st) k
      (at_node o (stands Ended st) (λ n. in_node (from signatures files k) (starting signatures files n) st) k)) (sym e)
      (subst (λ x. ComesTo p (states.enters (here_in x) st) k (in_node (from signatures files k) (starting signatures files node) st k)) named
      (f.by k (omega arith)))

  -- the run begins with the variables of the project
  entry_is : (start : List ℕ) (st : State) → entry p start st ≡ states.enters (here_in start) (beginning entries files st)
  entry_is start st =
      ap (λ ps. states.enters (here_in start) (record { store = with_missing st.store ps; answers = st.answers; tape = st.tape }))
      (pairs_same terms (variables_of entries files))

  begins_fine : (st : State) → KeepsKinds (pairs_of p.variables) st.store → Fine (first_store st.store entries files)
  begins_fine st kept =
      held_is_sound signatures entries files (first_store st.store entries files)
      (record { fits = known.typed.lines; unreserved = known.typed.unreserved })
      (begun_held entries files st.store known.typed.apart known.typed.unreserved
      (subst (λ ps. KeepsKinds ps st.store) (pairs_same terms (variables_of entries files)) kept))

  entry_comes : (start : List ℕ) (node : Placed) (st : State) (k : ℕ) → find start files ≡ Some node → KeepsKinds (pairs_of p.variables) st.store →
      ComesTo p (entry p start st) k (first_of signatures files start (beginning entries files st) (suc k))
  entry_comes start node st k e kept =
      subst (λ w. ComesTo p w k (first_of signatures files start (beginning entries files st) (suc k))) (sym (entry_is start st))
      (code_comes start node (beginning entries files st) k e (begins_fine st kept))

  code_shows : (start : List ℕ) (node : Placed) (st : State) (k : ℕ) → find start files ≡ Some node → KeepsKinds (pairs_of p.variables) st.store →
      Gives p start st (suc k) (first_of signatures files start (beginning entries files st) (suc k))
  code_shows start node st k e kept = let c = entry_comes start node st k e kept in record { came = c.came; first = c.reached; is = c.is }

  code_alone : (start : List ℕ) (node : Placed) (st : State) (k : ℕ) (r : Course) → find start files ≡ Some node →
      KeepsKinds (pairs_of p.variables) st.store →
      MFirst p (entry p start st) k r → outcome_of r ≡ first_of signatures files start (beginning entries files st) k
  code_alone start node st zero r e kept h = absurd h
  code_alone start node st (suc k) r e kept h =
      let c = entry_comes start node st k e kept in
      ap outcome_of (agree p h.steps c.reached.steps (entry p start st) k r c.came h.runs c.reached.runs) ∙ c.is

  pub means : Means signatures entries files p
  means = record { shows = code_shows; alone = code_alone }

-- the texts of an accepted project are templates
abbrev pub TextsHold : Type 0
TextsHold = (signatures : List Signature) (sources : List SourceFile) (lines : List FileLines) (entries : List TypedName) →
    AreAccepted signatures sources lines entries → All PlacedTexts (nodes_from 0 (map grown lines))

pub same_moments : ReadExactly → TextsHold → SameMoments
same_moments exactly texts signatures sources lines entries accepted =
    means signatures entries (map grown lines) (record {
      typed = accepted_typed exactly signatures sources lines entries accepted;
      texts = texts signatures sources lines entries accepted;
    })
