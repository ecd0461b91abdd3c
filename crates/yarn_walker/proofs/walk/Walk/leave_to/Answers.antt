use Rattle.std.proofs.Common.{◌≡◌, ℕ, List, sym, ap, subst, ◌∙◌}
use Rattle.yarn_value.specs.declared.fault.RunFault.TheVariants.{UnknownNode}
use Rattle.yarn_code.specs.Moments.{Faults}
use Rattle.yarn_meaning.specs.First.{faults_at}
use Rattle.yarn_walker.specs.Faults.{fault_of}
use Rattle.yarn_walker.specs.Titles.{placed}
use Rattle.yarn_walker.specs.Walk.{files_of, jumping, leaving, ToldSeat}
use Rattle.yarn_walker.specs.declared.walk.Seat.{Seat}
use Rattle.yarn_walker.proofs.TurnLemmas.{found_tells, ok_turned_same, jumping_enters, jumping_fails}
use Rattle.yarn_walker.proofs.walk.Walk.leave_to.Goals as goal
use Rattle.yarn_walker.proofs.walk.Walk.leave_to.Goals.{in-Some, in-None+in_ok-copy-in-None}

pub leave-requires-clause-told : goal.leave-requires-clause-told
leave-requires-clause-told c =
    let w = c.args.self.now in
    elim c.match-find.branch [
      | in-Some b ↦ λ table all.
          subst (ToldSeat table) (sym b.next-is) (found_tells table c.args.title.now (files_of w) (placed b.in-Some.next) (sym b.in-Some.ensures) all)
      | in-None+in_ok-copy-in-None b ↦ λ table all. subst (ToldSeat table) (sym b.next-is) tt
    ]

-- The jump is a leaving for what was found.
pub returns-clause-meaning : goal.returns-clause-meaning
returns-clause-meaning c =
    let w = c.args.self.now in
    let title = c.args.title.now in
    let node = c.args.node in
    let line = c.args.line in
    let Same : Seat → Type 0 = λ next.
    (answers : List ℕ) (k : ℕ) → jumping (files_of w) node line title w.store k answers k ≡ leaving (files_of w) node line next w.store k answers k in
    let same : Same c.match-find.next = elim c.match-find.branch [
      | in-Some b ↦ subst Same (sym b.next-is) (jumping_enters (files_of w) node b.in-Some.next line title w.store b.in-Some.ensures)
      | in-None+in_ok-copy-in-None b ↦
          let copied : b.in_ok-copy-in-None.field-0 ≡ title = b.in_ok-copy-in-None.ensures in
          let fault : Faults (fault_of b.fault.result) ≡ faults_at (placed node) line (UnknownNode title) =
          b.fault.ensures ∙ ap (λ t. faults_at (placed node) line (UnknownNode t)) copied in
          subst Same (sym b.next-is) (jumping_fails (files_of w) node b.fault.result line title w.store b.in-None.ensures fault)
    ] in
    ok_turned_same (jumping (files_of w) node line title w.store) (leaving (files_of w) node line c.match-find.next w.store) c.leave.result _ same
    c.leave.ensures.meaning
