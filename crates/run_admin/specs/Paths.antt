-- The paths that an admin address answers.
use Rattle.std.specs.Prelude.{ℕ, List, Option, Some, None, codes, if◌then◌else◌}
use Rattle.std.specs.Str.{bytes_eq}
use Rattle.run_admin.specs.declared.page.Status.{Status}
use Rattle.run_admin.specs.declared.page.Status.TheVariants.{Good, Unavailable}
use Rattle.run_admin.specs.declared.answering.Readiness.{Readiness}
use Rattle.run_admin.specs.declared.answering.Readiness.TheVariants.{Serves, Unserved, Stops}
use Rattle.run_admin.specs.declared.paths.AdminWanted.{AdminWanted}
use Rattle.run_admin.specs.declared.paths.AdminWanted.TheVariants.{Metrics, State, Health as ItsHealth, Page}

-- the page that a path names
abbrev pub wanted_at : List ℕ → Option AdminWanted
wanted_at path =
    if bytes_eq path (codes "/metrics") then Some Metrics
    else if bytes_eq path (codes "/state.json") then Some State
    else if bytes_eq path (codes "/health") then Some ItsHealth
    else if bytes_eq path (codes "/") then Some Page
    else None

-- the status that a load balancer before the proxy is told
abbrev pub status_of : Readiness → Status
status_of Serves = Good
status_of Unserved = Unavailable
status_of Stops = Unavailable

abbrev pub health_text : Readiness → List ℕ
health_text Serves = codes "ok\n"
health_text Unserved = codes "no server\n"
health_text Stops = codes "stopping\n"
