use Rattle.std.specs.Prelude.{List}
use Rattle.zk_line.specs.declared.types.Decl.{Decl}
use Rattle.zk_line.specs.declared.types.Declared.{Declared}
use Rattle.zk_scenario.specs.declared.types.Script.{Script}

-- what a contract sees of a scenario: its objects, the lines of its declarations, which are objects and permissions, and
-- its scripts, each in the written order
pub record Content : Type 0 where
  pub decls : List Decl
  pub written : List Declared
  pub scripts : List Script
