-- The worst lateness so far of each queue and class.
use Rattle.std.specs.Prelude.{◌≡◌, ◌&&◌, Bool, ℤ, ◌≤ℤ◌, List, [], map, Option, Some, None, Contains, if◌then◌else◌, is_some, IsTrue}
use Rattle.std.specs.Int.{int_max}
use Rattle.std.specs.Option.{option_map_or}
use Rattle.std.specs.Ordering.{int_eq}
use Rattle.due_key.specs.Range.{IsBetween}
use Rattle.due_key.specs.declared.class.TheConstants.{LOWEST_CLASS, HIGHEST_CLASS}
use Rattle.log_entries.specs.declared.queue.Queue.{Queue}
use Rattle.log_entries.specs.Rows.{same_queue}
use Rattle.log_reading.specs.Grants.{is_of, stays}
use Rattle.log_reading.specs.Windows.{Window}
use Rattle.log_reading.specs.declared.grant.SlotGrant.{SlotGrant}
use Rattle.std.specs.List.{filter}
use Rattle.late_cert.specs.Lateness.{own_lateness}
use Rattle.log_entries.specs.Queues.{IsQueueOf}
use Rattle.late_cert.specs.Tests.{late_by}
use Rattle.late_cert.specs.Table.{row_of, worst_at}
use Rattle.late_cert.specs.declared.table.Running.{Running}

-- there is room for a class
abbrev pub has_class_room : Running → ℤ → Bool
has_class_room running class = is_some (row_of running.table.items class)

-- the worst lateness so far of a queue and class
abbrev pub worst_so_far : Running → Queue → ℤ → Option ℤ
worst_so_far running = worst_at running.table.items

-- the worst lateness of each queue and class after one more grant with this lateness
abbrev pub worst_with : (Queue → ℤ → Option ℤ) → Queue → ℤ → ℤ → Queue → ℤ → Option ℤ
worst_with before queue class late other_queue other_class =
    if same_queue other_queue queue && int_eq other_class class then Some (option_map_or (int_max late) (before queue class) late)
    else before other_queue other_class

-- the greatest of these numbers: one of them that none exceeds; none where there are no numbers
abbrev pub IsGreatest : List ℤ → Option ℤ → Type 0
IsGreatest numbers None = numbers ≡ []
IsGreatest numbers (Some greatest) = Contains numbers greatest × ((number : ℤ) → Contains numbers number → number ≤ℤ greatest)

-- the worst lateness of a window's stays of a queue and class: the greatest of their own latenesses
abbrev pub IsWorstIn : Window → Queue → ℤ → Option ℤ → Type 0
IsWorstIn window queue class = IsGreatest (map (own_lateness window) (stays window queue class))

-- the worst lateness so far of each queue and class is that of a window
abbrev pub IsWorstOf : Window → Running → Type 0
IsWorstOf window running =
    (queue : Queue) (class : ℤ) → IsBetween LOWEST_CLASS HIGHEST_CLASS class → IsWorstIn window queue class (worst_so_far running queue class)

-- the latenesses of the grants of a queue and class
abbrev pub latenesses_of : Queue → ℤ → List SlotGrant → List ℤ
latenesses_of queue class grants = map late_by (filter (is_of queue class) grants)

-- the worst lateness so far of each queue and class is that of these grants
abbrev pub IsWorstAmong : List SlotGrant → Running → Type 0
IsWorstAmong grants running =
    (queue : Queue) (class : ℤ) → IsBetween LOWEST_CLASS HIGHEST_CLASS class → IsGreatest (latenesses_of queue class grants) (worst_so_far running queue class)

-- a running worst has room for a grant
abbrev pub HasRoomFor : Running → SlotGrant → Type 0
HasRoomFor running grant = IsQueueOf running.servers grant.queue × IsTrue (has_class_room running grant.class)
