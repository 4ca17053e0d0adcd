mod Logged
