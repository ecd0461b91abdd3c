-- A fault as the meaning names it.
use Rattle.yarn_code.specs.Moments.{FaultPlace}
use Rattle.yarn_walker.specs.declared.ends.FaultAt.{FaultAt}

abbrev pub fault_of : FaultAt → FaultPlace
fault_of f = record { fault = f.fault; file = f.file; line = f.line; node = f.node.now }
