-- A run as a page.
use Rattle.std.specs.Prelude.{ℕ, List, ◌++◌}
use Rattle.zk_line.specs.declared.types.Decl.{Decl}
use Rattle.zk_worker.specs.declared.log.Log.{Log}
use Rattle.zk_show_chart.specs.declared.chart.Chart.{Chart}
use Rattle.zk_show_json.specs.Values.{json_text}
use Rattle.zk_show_page.specs.declared.head.TheConstants.{HEAD}
use Rattle.zk_show_page.specs.declared.script.TheConstants.{SCRIPT}

-- what stands in each page, with the run as a value between
unfoldable pub page_text : List Decl → List Log → Chart → List ℕ → List ℕ → List ℕ
page_text decls logs chart told source = HEAD.now ++ json_text decls logs chart told source ++ SCRIPT.now
