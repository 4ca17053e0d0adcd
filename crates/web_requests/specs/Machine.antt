-- Addresses of this machine.
use Rattle.std.specs.Prelude.{◌≡◌, ◌⊎◌, [], ◌∷◌}
use Rattle.std.specs.Net.Addr.{MatchIp, IsLoopbackV4, IsLoopbackV6, ipv4_octets}
use Rattle.std.specs.Net.Socket.{socket_ip, socket_port}
use Rattle.std.specs.declared.net.ip_addr.IpAddr.{IpAddr}
use Rattle.std.specs.declared.net.socket_addr.SocketAddr.{SocketAddr}

-- only this machine reaches it: 127.0.0.0/8, or ::1
abbrev pub IsLoopback : SocketAddr → Type 0
IsLoopback a = MatchIp (socket_ip a) IsLoopbackV4 IsLoopbackV6

-- 127.0.0.1
abbrev pub IsLocalV4 : IpAddr → Type 0
IsLocalV4 ip = MatchIp ip (λ a. ipv4_octets a ≡ 127 ∷ 0 ∷ 0 ∷ 1 ∷ []) (λ _. ⊥)

-- ::1
abbrev pub IsLocalV6 : IpAddr → Type 0
IsLocalV6 ip = MatchIp ip (λ _. ⊥) IsLoopbackV6

-- the two addresses that localhost may be, with one port
pub record AreLocal (a b : SocketAddr) : Type 0 where
  pub port : socket_port b ≡ socket_port a
  pub both : (IsLocalV4 (socket_ip a) × IsLocalV6 (socket_ip b)) ⊎ (IsLocalV6 (socket_ip a) × IsLocalV4 (socket_ip b))
